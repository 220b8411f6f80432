use Rattle.std.proofs.Common.{[], ap, subst}
use Rattle.node_cell.specs.Node.{NodeData}
use Rattle.node_cell.specs.Retaining.{RunsSection}
use Rattle.node_cell.specs.Folding.{DiscardsInto}
use Rattle.node_cell.proofs.Retaining.{retains_kept, is_from, quiet_section}
use Rattle.node_cell.proofs.node.Node.discard.Goals as goal

pub returns : goal.returns
returns g c =
    let roster = g.L.LogName.roster in
    let log = g.L.LogName.log in
    let done = c.discard.ensures in
    subst (λ l. RunsSection roster log l [] (λ old new. DiscardsInto roster log old new) c.leave.result) (ap (λ (n : NodeData). n.lock) c.self.view_is)
    (quiet_section roster log _ c.visit-visit.result.state c.discard.new.self c.leave.result _
    (is_from roster log _ _ _ _ _ _ c.visit-visit.ensures.lock c.visit-visit.ensures.found c.leave.ensures) c.visit-visit.ensures.state
    (retains_kept roster log c.visit-visit.result.state.segment c.discard.new.self.segment done.meaning) done.trail (done.meaning, done.discards))
