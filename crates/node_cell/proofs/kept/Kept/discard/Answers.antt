use Rattle.std.proofs.Common.{sym, ap, subst, ◌∙◌}
use Rattle.segment_core.specs.Forgetting.{DiscardsJust}
use Rattle.segment_theorems.specs.Means.{Means}
use Rattle.node_cell.specs.Kept.{MeansTrail}
use Rattle.node_cell.proofs.Keeping.{keeps_still}
use Rattle.node_cell.proofs.kept.Kept.discard.Goals as goal

pub invariant_of-self : goal.invariant_of-self
invariant_of-self g c =
    let roster = g.L.LogName.roster in
    let log = g.L.LogName.log in
    let k : MeansTrail roster log c.deref_mut.result.now.segment c.self.inside.trail.items =
    subst (λ x. MeansTrail roster log x.segment c.self.inside.trail.items) (sym c.deref_mut.ensures.value) c.self.invariant in
    keeps_still roster log _ _ _ k (c.discard.ensures.keeps roster log k.facts g.met.L.LogName.sound k.means)

pub returns-clause-keeps : goal.returns-clause-keeps
returns-clause-keeps g c = invariant_of-self g c

pub returns-clause-meaning : goal.returns-clause-meaning
returns-clause-meaning g c = λ facts means.
    let roster = g.L.LogName.roster in
    let log = g.L.LogName.log in
    c.discard.ensures.keeps roster log facts g.met.L.LogName.sound
    (subst (Means roster log facts) (sym (ap (λ x. x.segment) c.deref_mut.ensures.value ∙ ap (λ k. k.segment) c.self.view_is)) means)

pub returns-clause-discards : goal.returns-clause-discards
returns-clause-discards g c =
    subst (λ s. DiscardsJust s c.discard.new.self.segment) (ap (λ x. x.segment) c.deref_mut.ensures.value ∙ ap (λ k. k.segment) c.self.view_is) c.discard.ensures.discards
