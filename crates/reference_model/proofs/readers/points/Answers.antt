use Rattle.std.proofs.lemmas.Grind.{common_steps}
use Rattle.std.proofs.Common.{◌+◌, sym, subst, arith}
use Rattle.redo_core.specs.Sets.{advances}
use Rattle.redo_core.specs.Points.{ArePoints}
use Rattle.reference_model.proofs.ReadersPoints.{one_reader_more}
use Rattle.reference_model.proofs.readers.points.Goals as goal

pub loop-place-preserved : goal.loop-place-preserved
loop-place-preserved c =
    subst (ArePoints (c.loop-place.place + 1) (advances c.args.facts.now) c.args.epoch) (sym c.in_ok-push.ensures.items)
    (one_reader_more c.loop-place.place (advances c.args.facts.now) c.args.epoch c.loop-place.points.items c.point.result c.loop-place.invariant
    c.point.ensures)

pub loop-place-init : goal.loop-place-init
loop-place-init c = grind (arith, common_steps)
