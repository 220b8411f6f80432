use Rattle.std.proofs.Common.{refl, sym, subst, arith}
use Rattle.redo_core.specs.declared.facts.Fact.{Fact}
use Rattle.redo_core.proofs.Scans.{whole, one_more}
use Rattle.reference_model.proofs.Scanned.{LeavesBehind}
use Rattle.reference_model.proofs.Scans.{advance_item, advance_default, not_past}
use Rattle.reference_model.proofs.past.is_past.Goals as goal
use Rattle.reference_model.proofs.past.is_past.Goals.{in-Advance+else-reader, else-reader-via-then-reader+then-epoch+else-point-lo, else-reader-via-then-reader+else-epoch, else-reader-via-else-reader, in_default}

pub returns-then-point-lo : goal.returns-then-point-lo
returns-then-point-lo c = (
  λ _. (
    c.in-Advance.advance,
    advance_item c.args.log.now c.loop-fact.fact-index c.fact-item.result c.in-Advance.advance c.loop-fact-test.true c.fact-item.is
        c.in-Advance.is,
    omega arith,
    omega arith,
    omega arith,
  ),
  λ _. refl,
)

pub loop-fact-preserved : goal.loop-fact-preserved
loop-fact-preserved c =
    let P : Fact → Type 0 = LeavesBehind c.args.cut.now c.args.reader in
    one_more P c.args.log.now c.loop-fact.fact-index c.fact-item.result c.loop-fact-test.true c.fact-item.is c.loop-fact.invariant
    (elim c.match-fact.branch [
      | in-Advance+else-reader w ↦ subst P (sym w.in-Advance.is) (λ own before above. elim w.else-reader.branch [
        | else-reader-via-then-reader+then-epoch+else-point-lo v ↦ omega arith
        | else-reader-via-then-reader+else-epoch v ↦ omega arith
        | else-reader-via-else-reader v ↦ grind arith
      ])
      | in_default w ↦ advance_default P c.fact-item.result (λ r. tt) (λ d. tt) w.in_default.not-Advance
    ])

pub returns : goal.returns
returns c = (
  λ h. absurd (cc),
  λ h. absurd (not_past c.args.log.now c.args.cut.now c.args.reader
      (whole (LeavesBehind c.args.cut.now c.args.reader) c.args.log.now c.loop-fact.fact-index c.loop-fact-test.false c.loop-fact.invariant) h),
)
