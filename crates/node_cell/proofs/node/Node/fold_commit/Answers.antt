use Rattle.std.proofs.Common.{[], IfErr, subst, sym, ap, ◌∙◌}
use Rattle.node_lock.specs.Section.{SectionData}
use Rattle.node_cell.specs.Kept.{KeptData}
use Rattle.node_cell.specs.Node.{NodeData}
use Rattle.node_cell.specs.Retaining.{RunsSection}
use Rattle.node_cell.specs.Folding.{RefusesFold, CommitsInto}
use Rattle.node_cell.proofs.Retaining.{commits_into, retains_commit, from_found, is_from, quiet_section}
use Rattle.node_cell.proofs.node.Node.fold_commit.Goals as goal

pub leave-section-requires-clause-retained : goal.leave-section-requires-clause-retained
leave-section-requires-clause-retained g c =
    let roster = g.L.LogName.roster in
    let log = g.L.LogName.log in
    let told = c.commit-answer.ensures in
    from_found roster log c.visit-visit.result.found.value c.visit-visit.result.state c.commit-answer.new.self c.visit-visit.ensures.found
    (retains_commit roster log c.args.folded c.commit-answer.result c.visit-visit.result.state.segment c.commit-answer.new.self.segment
    (commits_into roster log c.args.folded c.commit-answer.result c.visit-visit.result.state c.commit-answer.new.self told.meaning told.commits
    told.unchanged))

pub returns-clause-section : goal.returns-clause-section
returns-clause-section g c =
    let roster = g.L.LogName.roster in
    let log = g.L.LogName.log in
    let told = c.commit-answer.ensures in
    let does = commits_into roster log c.args.folded c.commit-answer.result c.visit-visit.result.state c.commit-answer.new.self told.meaning
    told.commits told.unchanged in
    subst (λ l. RunsSection roster log l [] (λ old new. CommitsInto roster log c.args.folded c.commit-answer.result old new) c.leave-section.result)
    (ap (λ (n : NodeData). n.lock) c.self.view_is)
    (quiet_section roster log _ c.visit-visit.result.state c.commit-answer.new.self c.leave-section.result _
    (is_from roster log _ _ _ _ _ _ c.visit-visit.ensures.lock c.visit-visit.ensures.found c.leave-section.ensures) c.visit-visit.ensures.state
    (retains_commit roster log c.args.folded c.commit-answer.result c.visit-visit.result.state.segment c.commit-answer.new.self.segment does)
    told.trail does)

pub returns-clause-refused : goal.returns-clause-refused
returns-clause-refused g c =
    subst (λ (k : KeptData). IfErr c.commit-answer.result (λ e. RefusesFold g.L.LogName.roster g.L.LogName.log k.segment c.args.folded e.fault))
    (sym (ap (λ (s : SectionData KeptData). s.before) c.leave-section.ensures ∙ c.visit-visit.ensures.found)) c.commit-answer.ensures.refused
