use Rattle.std.proofs.Common.{◌≡◌, ◌<◌, ◌≤◌, ◌+◌, ◌∙◌, Some, sym, ap, refl, length, subst, arith, true, false, rules}
use Rattle.std.specs.Prelude.{slice_get}
use Rattle.std.proofs.lemmas.Option.{slice_get_read}
use Rattle.redo_core.specs.Data.{RecordData}
use Rattle.redo_core.specs.Standing.{IsAlive}
use Rattle.redo_core.specs.Sound.{counted}
use Rattle.log_law.specs.Targets.{IsOfPage}
use Rattle.log_law.proofs.Least.{same_redo}
use Rattle.log_law.proofs.Candidates.{IsTargetTo, target_end, target_kept, target_new}
use Rattle.log_law.proofs.targets.target_among.Goals as goal
use Rattle.log_law.proofs.targets.target_among.Goals.{in-Record+then-target-number+then-is_candidate, in-Record+else-target-number, else-target-number-via-then-target-number+else-is_candidate, else-target-number-via-else-target-number, in_default}

pub loop-place-preserved : goal.loop-place-preserved
loop-place-preserved c =
    let log = c.args.facts.now in let p = c.loop-place.place in let f = c.index-facts-place.result in let r = c.args.redo.now in
    let Only = λ (s : RecordData). IsOfPage c.args.page s in
    let at : slice_get c.args.facts.now c.loop-place.place ≡ Some f = slice_get_read log
    (length c.args.facts.now) p f refl c.loop-place-test.true c.index-facts-place.is in
    let inv = c.loop-place.invariant in
    elim c.match-fact.branch [
      | in-Record+then-target-number+then-is_candidate w ↦
          (let s = w.in-Record.other in
          let fits = (w.is_candidate.ensures log c.requires.cuts c.requires.bounds).0 w.if-is_candidate.true in
          let number : w.number-number.result ≡ w.in-Record.other.number = w.number-number.ensures.value in
          let above : c.loop-place.target.number < w.number-number.result = w.if-target-number.true in
          subst (IsTargetTo log r Only (p + 1)) (sym w.target-is)
          (target_new log r Only p s c.loop-place.target _ (at ∙ ap Some w.in-Record.is) refl number fits.0 fits.1 fits.2 (omega arith) inv))
      | in-Record+else-target-number w ↦
          (let number : w.number-number.result ≡ w.in-Record.other.number = w.number-number.ensures.value in
          subst (IsTargetTo log r Only (p + 1)) (sym w.target-is) (target_kept log r Only p f c.loop-place.target at
          (elim w.else-target-number.branch [
            | else-target-number-via-then-target-number+else-is_candidate v ↦ λ b.
                (let same : b.0 ≡ w.in-Record.other = same_redo b.0 w.in-Record.other (sym b.1 ∙ w.in-Record.is) in
                let t : v.is_candidate.result ≡ true = (v.is_candidate.ensures log c.requires.cuts c.requires.bounds).1
                (subst (λ x. IsAlive (counted log) r.epoch x.epoch x.number × Only x × (x.number < r.number)) same (b.2, b.3, b.4)) in
                let clash : true ≡ false = sym t ∙ v.if-is_candidate.false in absurd (cc))
            | else-target-number-via-else-target-number v ↦ λ b.
                (let same : b.0.number ≡ w.in-Record.other.number = ap (λ x. x.number) (same_redo b.0 w.in-Record.other (sym b.1 ∙ w.in-Record.is)) in
                let l : c.loop-place.target.number < b.0.number = b.5 in
                let m : w.number-number.result ≤ c.loop-place.target.number = v.if-target-number.false in omega arith)
          ]) inv))
      | in_default w ↦
          subst (IsTargetTo log r Only (p + 1)) (sym w.target-is) (target_kept log r Only p f c.loop-place.target at (λ b. w.in_default.not-Record b.0 b.1) inv)
    ]

pub returns : goal.returns
returns c = search (rules, target_end)
