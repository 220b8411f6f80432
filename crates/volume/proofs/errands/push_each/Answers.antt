use Rattle.std.proofs.Common.{arith}
use Rattle.volume.proofs.Asks.{one_asked_more}
use Rattle.volume.proofs.errands.push_each.Goals as goal

pub loop-place-preserved : goal.loop-place-preserved
loop-place-preserved c =
    one_asked_more c.args.actions.now.items c.loop-place.actions.items c.push_at.new.actions.items c.args.generation c.args.errand.now
    c.args.births.now c.loop-place.place (omega arith) c.loop-place.invariant c.in_ok-push_at.ensures
