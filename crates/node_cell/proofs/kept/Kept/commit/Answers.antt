use Rattle.std.proofs.lemmas.Grind.{common_steps}
use Rattle.std.proofs.Common.{sym, ap, subst, ◌∙◌, IfErr, arith}
use Rattle.node_cell.specs.Kept.{MeansTrail}
use Rattle.node_cell.specs.Folding.{RefusesFold}
use Rattle.node_cell.proofs.Keeping.{final, keeps_still, refuses_fold}
use Rattle.node_cell.proofs.kept.Kept.commit.Goals.{in-Ok, in-Err}
use Rattle.node_cell.proofs.kept.Kept.commit.Goals as goal

pub invariant_of-self : goal.invariant_of-self
invariant_of-self g c =
    let roster = g.L.LogName.roster in
    let log = g.L.LogName.log in
    let k : MeansTrail roster log c.deref_mut.result.now.segment c.self.inside.trail.items =
    subst (λ x. MeansTrail roster log x.segment c.self.inside.trail.items) (sym c.deref_mut.ensures.value) c.self.invariant in elim c.match-commit_fold.branch [
      | in-Ok w ↦ keeps_still roster log _ _ _ k
          (w.in-Ok.ensures.keeps roster log k.facts g.met.L.LogName.sound (final roster log c.into_segment_fold.result c.into_segment_fold.ensures.own) k.means)
      | in-Err w ↦ subst (λ s. MeansTrail roster log s c.self.inside.trail.items) (sym (ap (λ k. k.segment) w.in-Err.ensures.unchanged)) k
    ]

pub returns-clause-keeps : goal.returns-clause-keeps
returns-clause-keeps g c = invariant_of-self g c

pub returns-clause-refused : goal.returns-clause-refused
returns-clause-refused g c =
    let roster = g.L.LogName.roster in
    let log = g.L.LogName.log in
    let old = c.deref_mut.result.now.segment in
    let k : MeansTrail roster log c.deref_mut.result.now.segment c.self.inside.trail.items =
    subst (λ x. MeansTrail roster log x.segment c.self.inside.trail.items) (sym c.deref_mut.ensures.value) c.self.invariant in
    subst (λ s. IfErr c.match-commit_fold.result (λ e. RefusesFold roster log s c.args.folded e.fault))
    (ap (λ x. x.segment) c.deref_mut.ensures.value ∙ ap (λ k. k.segment) c.self.view_is)
    elim c.match-commit_fold.branch [
      | in-Ok w ↦ subst (λ r. IfErr r (λ e. RefusesFold roster log old c.args.folded e.fault)) (sym w.result-is) tt
      | in-Err w ↦ subst (λ r. IfErr r (λ e. RefusesFold roster log old c.args.folded e.fault)) (sym w.result-is)
          (subst (λ f. RefusesFold roster log old f w.in-Err.refused.fault) c.into_segment_fold.ensures.value
          (refuses_fold roster log k.facts k.means.0 c.deref_mut.result.now.segment c.into_segment_fold.result w.in-Err.refused.fault g.met.L.LogName.sound
          k.means.1 w.in-Err.ensures.refused))
    ]

pub returns-clause-commits : goal.returns-clause-commits
returns-clause-commits g c = grind (arith, common_steps)

pub new-requires : goal.new-requires
new-requires g c = grind (arith, common_steps)

pub returns-clause-unchanged : goal.returns-clause-unchanged
returns-clause-unchanged g c = grind (arith, common_steps)

pub returns-clause-back : goal.returns-clause-back
returns-clause-back g c = grind (arith, common_steps)
