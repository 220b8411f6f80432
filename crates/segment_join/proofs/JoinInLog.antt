-- Two states of one sound log: a join of them is not refused, and joined they mean the union.
use Rattle.std.proofs.Common.{◌≡◌, ◌≢◌, ℕ, ⊎_elim, List, sym, ◌∙◌, subst, rules}
use Rattle.redo_core.specs.Sound.{IsSound}
use Rattle.redo_core.specs.Book.{roster_of}
use Rattle.redo_core.specs.declared.facts.Fact.{Fact}
use Rattle.redo_core.proofs.FactParts.{record_in, cut_in, advance_in}
use Rattle.log_theorems.proofs.Log.{log_of_sound}
use Rattle.segment_theorems.specs.State.{State}
use Rattle.segment_theorems.specs.Means.{MeansAt, Means}
use Rattle.segment_theorems.proofs.Joining.{join_law}
use Rattle.segment_theorems.proofs.Booked.{points_as, epoch_of}
use Rattle.segment_core.specs.declared.answers.Refusal.{Refusal}
use Rattle.segment_core.specs.declared.answers.Refusal.TheVariants.{OtherRoster}
use Rattle.segment_core.specs.Exported.{AreExported}
use Rattle.segment_core.specs.InOrder.{RefusesOne}
use Rattle.segment_join.specs.Joining.{MeansUnion, AreOfOneLog, RefusesJoin, JoinsInto}
use Rattle.segment_core.proofs.ToldInLog.{ReportsPart, none_of_part}
use Rattle.segment_join.proofs.JoinedStates.{HaveOneRecordAKey, joins_whole}

module _ (roster : ℕ) (log : List Fact) (sound : IsSound roster log) where
  -- ---- what a state of the log exports
  module _ (other : State) (facts G : List Fact) (means : Means roster log G other) (told : AreExported other facts) where
    m : MeansAt roster log G means.0 other
    m = means.1

    part_of : ReportsPart roster log G means.0 other.book told.kept
    unfolding m
    part_of = record {
      part = m.part;
      position = m.position;
      complete = epoch_of m;
      epoch = m.epoch;
      points = points_as m;
      cuts = λ c h. (cut_in G c).0 ((m.book.same_cuts c).0 h);
      waits = λ a h. (advance_in G a).0 ((m.book.waits a).0 h).0;
      records = λ r h. (record_in log r).0 (m.of_log r ((told.kept_are.members r).0 h).0);
    }

  not_refused : (s other : State) (F G : List Fact) → Means roster log F s → Means roster log G other → (why : Refusal) → RefusesJoin s other why → ⊥
  not_refused s other F G a b why r =
      ⊎_elim
      (λ (x : (roster_of s.book ≢ roster_of other.book) × (why ≡ OtherRoster (roster_of s.book) (roster_of other.book))). x.0 (a.1.readers ∙ sym b.1.readers))
      (λ (x : (roster_of s.book ≡ roster_of other.book) × (facts : List Fact) × AreExported other facts × RefusesOne s facts why).
      none_of_part roster log sound s F G b.0 other.book x.2.kept a (part_of other x.1 G b x.2) why (subst (λ fs. RefusesOne s fs why) x.2.facts_are x.3))
      r

  one_record_a_key : (s other : State) (F G : List Fact) → Means roster log F s → Means roster log G other → HaveOneRecordAKey s other
  one_record_a_key s other F G a b r q hr hq e n = (log_of_sound roster log sound).same_record r q (a.1.of_log r hr) (b.1.of_log q hq) e n

-- a join of two states of one sound log is not refused
pub sound_join : (s other : State) (why : Refusal) → RefusesJoin s other why → AreOfOneLog s other → ⊥
sound_join s other why r one = not_refused one.0 one.1 one.4 s other one.2 one.3 one.5 one.6 why r

-- and joined they mean the union
pub means_union : (s other new : State) → JoinsInto s other new → MeansUnion s other new
means_union s other new joins roster log F G sound a b = search (rules, join_law, log_of_sound, joins_whole, one_record_a_key)
