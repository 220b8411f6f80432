use Rattle.std.proofs.Common.{refl, arith}
use Rattle.std.proofs.lemmas.List.Elements.{All-contains}
use Rattle.redo_core.proofs.Members.{item}
use Rattle.redo_core.proofs.Scans.{whole, one_more}
use Rattle.snapshot.specs.Placing.{IsKeptFor}
use Rattle.snapshot.proofs.placing.are_kept.Goals as goal

pub loop-redo-preserved : goal.loop-redo-preserved
loop-redo-preserved c = one_more (IsKeptFor c.args.book.now c.args.anchor) c.args.records.now c.loop-redo.redo-index c.redo-item.result c.loop-redo-test.true
    c.redo-item.is c.loop-redo.invariant (c.if-not-is_kept.ensures.0 refl)

pub returns : goal.returns
returns c = (
  λ t r h. All-contains (IsKeptFor c.args.book.now c.args.anchor) c.args.records.now r
      (whole (IsKeptFor c.args.book.now c.args.anchor) c.args.records.now c.loop-redo.redo-index c.loop-redo-test.false c.loop-redo.invariant) h,
  λ h. refl,
)

pub returns-then-not-is_kept : goal.returns-then-not-is_kept
returns-then-not-is_kept c = (
  λ t. absurd (grind (arith, t)),
  λ all. c.if-not-is_kept.ensures.1
      (all c.redo-item.result (item c.args.records.now c.loop-redo.redo-index c.redo-item.result c.loop-redo-test.true c.redo-item.is)),
)
