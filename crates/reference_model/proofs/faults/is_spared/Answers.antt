use Rattle.std.proofs.Common.{IsTrue, false, arith, subst, sym, rules}
use Rattle.redo_core.specs.declared.facts.Fact.{Fact}
use Rattle.reference_model.proofs.Scanned.{IsAboveIfCounted}
use Rattle.redo_core.proofs.Scans.{whole, one_more}
use Rattle.reference_model.proofs.Scans.{cut_default}
use Rattle.reference_model.proofs.CountedCuts.{all_counted_above}
use Rattle.reference_model.proofs.faults.is_spared.Goals as goal
use Rattle.reference_model.proofs.faults.is_spared.Goals.{in-Cut+else-epoch, else-epoch-via-then-epoch+then-lo-point+then-is_counted+else-are_past, else-epoch-via-then-epoch+then-lo-point+else-is_counted, else-epoch-via-then-epoch+else-lo-point, else-epoch-via-else-epoch, in_default}

pub returns-then-are_past : goal.returns-then-are_past
returns-then-are_past c = search rules

pub loop-fact-preserved : goal.loop-fact-preserved
loop-fact-preserved c =
    let P : Fact → Type 0 = IsAboveIfCounted c.args.readers c.args.log.now c.args.epoch c.args.point in
    one_more P c.args.log.now c.loop-fact.fact-index c.fact-item.result c.loop-fact-test.true c.fact-item.is c.loop-fact.invariant
    (elim c.match-fact.branch [
      | in-Cut+else-epoch w ↦ subst P (sym w.in-Cut.is) (λ h l past. elim w.else-epoch.branch [
        | else-epoch-via-then-epoch+then-lo-point+then-is_counted+else-are_past u ↦ absurd (let t : IsTrue false = u.if-are_past.ensures.1 past in cc)
        | else-epoch-via-then-epoch+then-lo-point+else-is_counted u ↦ absurd (let t : IsTrue false = u.if-is_counted.ensures.1 h in cc)
        | else-epoch-via-then-epoch+else-lo-point u ↦ omega arith
        | else-epoch-via-else-epoch u ↦ omega arith
      ])
      | in_default w ↦ cut_default P c.fact-item.result (λ r. tt) (λ a. tt) w.in_default.not-Cut
    ])

pub returns : goal.returns
returns c = search (rules, all_counted_above, whole)
