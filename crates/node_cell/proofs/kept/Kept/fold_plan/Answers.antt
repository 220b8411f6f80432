use Rattle.std.proofs.Common.{subst, sym, ap, ◌∙◌, rules}
use Rattle.segment_theorems.specs.Means.{MeansAt}
use Rattle.node_cell.proofs.Keeping.{fold_of_log}
use Rattle.node_cell.proofs.kept.Kept.fold_plan.Goals as goal

pub new-requires : goal.new-requires
new-requires g c =
    let k = c.self.invariant in
    let m = k.means.1 in
    fold_of_log g.L.LogName.roster g.L.LogName.log k.facts k.means.0 c.args.page c.in-Ok.plan m.part m.position
    (c.in-Ok.ensures.result g.L.LogName.roster g.L.LogName.log k.facts k.means.0 g.met.L.LogName.sound
    (subst (MeansAt g.L.LogName.roster g.L.LogName.log k.facts k.means.0) (sym (c.segment.ensures ∙ ap (λ x. x.segment) c.deref.ensures)) m))

pub returns-in-Ok-clause-fold : goal.returns-in-Ok-clause-fold
returns-in-Ok-clause-fold g c = search rules

pub returns-in-Ok-clause-page : goal.returns-in-Ok-clause-page
returns-in-Ok-clause-page g c = search rules
