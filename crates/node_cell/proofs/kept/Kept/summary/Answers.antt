use Rattle.std.proofs.Common.{subst, sym, ap, ◌∙◌}
use Rattle.node_cell.specs.Kept.{MeansTrail}
use Rattle.node_cell.proofs.Gossiped.{summary_of_log}
use Rattle.node_cell.proofs.kept.Kept.summary.Goals as goal

pub returns-clause-told : goal.returns-clause-told
returns-clause-told g c =
    summary_of_log g.L.LogName.roster g.L.LogName.log c.segment.result.now c.self.inside.trail.items c.summary.result g.met.L.LogName.sound
    (subst (λ s. MeansTrail g.L.LogName.roster g.L.LogName.log s c.self.inside.trail.items) (sym (c.segment.ensures ∙ ap (λ x. x.segment) c.deref.ensures)) c.self.invariant)
    c.one_meaning.ensures c.summary.ensures.part
