-- Inside one sound log: a state refuses nothing that a delta exports, and what it means after an absorb.
use Rattle.std.proofs.Common.{◌≡◌, ℕ, ⊎_elim, List, ◌++◌}
use Rattle.redo_core.specs.Position.{Position}
use Rattle.redo_core.specs.declared.facts.Fact.{Fact}
use Rattle.redo_core.proofs.FactParts.{record_in, cut_in, advance_in, part_records}
use Rattle.log_theorems.proofs.Log.{log_of_sound}
use Rattle.messages.specs.Summaries.{SummaryData}
use Rattle.messages.specs.Deltas.{DeltaData, IsDelta}
use Rattle.segment_theorems.specs.State.{State}
use Rattle.segment_theorems.specs.Means.{MeansAt}
use Rattle.segment_theorems.proofs.Absorbing.{absorb_law}
use Rattle.segment_theorems.proofs.Booked.{epoch_of}
use Rattle.segment_core.specs.declared.answers.Refusal.{Refusal}
use Rattle.segment_core.specs.declared.answers.Refusal.TheVariants.{Memory}
use Rattle.segment_core.specs.Exported.{exported_facts}
use Rattle.segment_core.specs.InOrder.{RefusesOne}
use Rattle.segment_core.proofs.TakingAll.{IsLate}
use Rattle.segment_core.proofs.ToldInLog.{ReportsPart, none_of_part, kept_of_part}
use Rattle.gossip_core.specs.Answering.{listing_of}
use Rattle.gossip_core.proofs.AnsweringFacts.{answers_for}
use Rattle.gossip_core.specs.Absorbing.{filling_of, IsAnsweredInLog, MeansBoth, IsOfOneLog, Answers, AbsorbsInto, RefusesTold}
use Rattle.gossip_core.proofs.Absorbed.{known_together}

module _ (roster : ℕ) (log F G : List Fact) (f g : Position) (s : State) (summary : SummaryData) (d : DeltaData)
    (a : IsAnsweredInLog roster log F G f g s summary d) where
  tells_part : IsDelta d → ReportsPart roster log G g d.book d.records
  tells_part shape = record {
    part = a.part;
    position = a.position;
    complete = shape.book.complete;
    epoch = a.fills.epoch;
    points = a.fills.same_points;
    cuts = λ c h. (cut_in G c).0 ((a.fills.same_cuts c).0 h);
    waits = λ w h. (advance_in G w).0 ((a.fills.same_waits w).0 h).0;
    records = λ r h. (record_in log r).0 (part_records G log a.part r (a.fills.of_facts r h));
  }

  late : IsLate s
  late = record { epoch = epoch_of a.means; later = λ w h. ((a.means.book.waits w).0 h).1 }

  pub means_both : (new : State) → IsDelta d → Answers s summary → AbsorbsInto s d new → (p : Position) × MeansAt roster log (F ++ G) p new
  means_both new shape own absorbs =
      absorb_law log F G f g s new (listing_of summary) (filling_of d) (log_of_sound roster log a.sound) a.means a.part a.position a.fills
      (answers_for roster log F f s a.sound a.means summary own.0 own.1 own.2)
      (known_together s d new late absorbs
      (kept_of_part roster log a.sound s absorbs.taken F G g d.book d.records (f, a.means) (tells_part shape) absorbs.takes))

  pub nothing_refused : IsDelta d → (why : Refusal) → RefusesOne s (exported_facts d.book d.records) why → ⊥
  nothing_refused shape why refused = none_of_part roster log a.sound s F G g d.book d.records (f, a.means) (tells_part shape) why refused

-- a refusal inside one sound log is lack of memory, where nothing is uncovered
pub only_memory : (s : State) (summary : SummaryData) (d : DeltaData) (why : Refusal) → IsDelta d → RefusesTold s d why
    → IsOfOneLog s summary d → why ≡ Memory
only_memory s summary d why shape refused one =
    ⊎_elim
    (λ (e : why ≡ Memory). e)
    (λ (x : RefusesOne s (exported_facts d.book d.records) why).
    absurd (nothing_refused one.0 one.1 one.2 one.3 one.4 one.5 s summary d one.6 shape why x))
    refused

-- an absorb means the union
pub both : (s : State) (summary : SummaryData) (d : DeltaData) (new : State) → IsDelta d → Answers s summary → AbsorbsInto s d new
    → MeansBoth s summary d new
both s summary d new shape own absorbs = λ roster log F G f g a. means_both roster log F G f g s summary d a new shape own absorbs
