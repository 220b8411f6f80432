use Rattle.node_cell.specs.Retaining.{retains_own}
use Rattle.node_cell.proofs.Retaining.{from_found}
use Rattle.node_cell.proofs.node.Node.reply.Goals as goal

pub leave-requires-clause-retained : goal.leave-requires-clause-retained
leave-requires-clause-retained g c =
    let roster = g.L.LogName.roster in
    let log = g.L.LogName.log in
    from_found roster log c.visit-visit.result.found.value c.visit-visit.result.state c.visit-visit.result.state c.visit-visit.ensures.found
    (retains_own roster log c.visit-visit.result.state.segment)
