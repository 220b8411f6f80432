use Rattle.std.proofs.Common.{refl, rules}
use Rattle.redo_core.proofs.Scans.{whole, one_more}
use Rattle.redo_core.specs.Standing.{SparesIn}
use Rattle.snapshot.proofs.placing.are_sparing.Goals as goal

pub loop-cut-preserved : goal.loop-cut-preserved
loop-cut-preserved c = one_more (SparesIn c.args.complete c.args.redo.now.epoch c.args.redo.now.number) c.args.cuts.now c.loop-cut.cut-index c.cut-item.result
    c.loop-cut-test.true c.cut-item.is c.loop-cut.invariant (c.if-not-is_sparing.ensures.0 refl)

pub returns : goal.returns
returns c = search (rules, whole)
