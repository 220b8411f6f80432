use Rattle.std.proofs.Common.{◌≡◌, ◌⊎◌, inr, ⊎_elim, arith, rules}
use Rattle.std.proofs.lemmas.Result.{on_ok_weaker, IfErr-weaker}
use Rattle.redo_core.specs.Book.{roster_of}
use Rattle.segment_theorems.specs.State.{State}
use Rattle.segment_core.specs.declared.answers.Refusal.{Refusal}
use Rattle.segment_core.specs.declared.answers.Refusal.TheVariants.{Memory}
use Rattle.segment_join.specs.Joining.{AreOfOneLog, RefusesJoin}
use Rattle.segment_join.specs.Knowing.{RefusesAll}
use Rattle.segment_core.proofs.Ordered.{memory_or}
use Rattle.segment_join.proofs.JoinInLog.{sound_join, means_union}
use Rattle.segment_join.proofs.joining.join.Goals as goal

-- of one roster, what is refused of what the other exports refuses the join
refused_told : (own other : State) (why : Refusal) → roster_of own.book ≡ roster_of other.book → RefusesAll own other why → RefusesJoin own other why
refused_told own other why same refused = inr (same, refused.0, refused.1, refused.2)

-- inside one sound log that is lack of memory
only_memory : (own other : State) (why : Refusal) → (why ≡ Memory) ⊎ RefusesJoin own other why → AreOfOneLog own other → why ≡ Memory
only_memory own other why refused one =
    ⊎_elim (λ (h : why ≡ Memory). h) (λ (h : RefusesJoin own other why). absurd (sound_join own other why h one)) refused

pub bring_in-requires : goal.bring_in-requires
bring_in-requires c = omega (arith, c.readers-own.ensures, c.readers-shown.ensures, c.if-own-shown.false)

pub returns-clause-means : goal.returns-clause-means
returns-clause-means c = search (rules, on_ok_weaker, means_union)

pub returns-clause-sound : goal.returns-clause-sound
returns-clause-sound c =
    let own = c.args.segment.now in let other = c.args.other.now in
    let same : roster_of own.book ≡ roster_of other.book = omega (arith, c.readers-own.ensures, c.readers-shown.ensures, c.if-own-shown.false) in
    IfErr-weaker c.bring_in.result (λ e. (e ≡ Memory) ⊎ RefusesAll own other e) (λ e. AreOfOneLog own other → e ≡ Memory)
    (λ (why : Refusal) h. only_memory own other why (memory_or why (RefusesAll own other why) _ (refused_told own other why same) h))
    c.bring_in.ensures.refused

pub returns-clause-joins : goal.returns-clause-joins
returns-clause-joins c = search rules

pub returns-clause-takes : goal.returns-clause-takes
returns-clause-takes c = search rules

pub returns-clause-refused : goal.returns-clause-refused
returns-clause-refused c = search rules
