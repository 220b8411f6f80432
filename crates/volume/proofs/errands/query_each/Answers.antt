use Rattle.volume.proofs.Asks.{one_queried_more}
use Rattle.volume.proofs.errands.query_each.Goals as goal

pub loop-node-preserved : goal.loop-node-preserved
loop-node-preserved c =
    one_queried_more c.loop-node.actions.items c.push_query.new.actions.items c.args.query c.loop-node.node c.loop-node.invariant
    c.in_ok-push_query.ensures
