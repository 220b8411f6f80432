use Rattle.std.proofs.Common.{IsTrue, false, refl, subst, sym, rules}
use Rattle.redo_core.specs.Sound.{counted}
use Rattle.redo_core.specs.declared.facts.Fact.{Fact}
use Rattle.reference_model.proofs.Scanned.{IsSparedIfCounted}
use Rattle.redo_core.proofs.Scans.{whole, one_more}
use Rattle.reference_model.proofs.Scans.{cut_default}
use Rattle.reference_model.proofs.LinkedScans.{spares_of}
use Rattle.reference_model.proofs.CountedCuts.{all_counted_spare}
use Rattle.reference_model.proofs.counted.is_alive_by_counted.Goals as goal
use Rattle.reference_model.proofs.counted.is_alive_by_counted.Goals.{in-Cut+else-is_counted, else-is_counted-via-then-is_counted+else-not-spares, else-is_counted-via-else-is_counted, in_default}

pub returns-then-not-spares : goal.returns-then-not-spares
returns-then-not-spares c = (
  λ h. absurd (cc),
  λ a. let s = spares_of (counted c.args.log.now) c.args.view c.args.epoch c.args.number c.in-Cut.cut (c.if-is_counted.ensures.0 refl) a in
      let t : IsTrue false = c.if-not-spares.ensures.1 s in t,
)

pub loop-fact-preserved : goal.loop-fact-preserved
loop-fact-preserved c =
    let P : Fact → Type 0 = IsSparedIfCounted c.args.log.now c.args.view c.args.epoch c.args.number in
    one_more P c.args.log.now c.loop-fact.fact-index c.fact-item.result c.loop-fact-test.true c.fact-item.is c.loop-fact.invariant
    (elim c.match-fact.branch [
      | in-Cut+else-is_counted w ↦ subst P (sym w.in-Cut.is) (λ h. elim w.else-is_counted.branch [
        | else-is_counted-via-then-is_counted+else-not-spares u ↦ u.if-not-spares.ensures.0 refl
        | else-is_counted-via-else-is_counted u ↦ absurd (let t : IsTrue false = u.if-is_counted.ensures.1 h in cc)
      ])
      | in_default w ↦ cut_default P c.fact-item.result (λ r. tt) (λ a. tt) w.in_default.not-Cut
    ])

pub returns : goal.returns
returns c = search (rules, all_counted_spare, whole)
