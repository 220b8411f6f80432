use Rattle.std.proofs.lemmas.Grind.{common_steps}
use Rattle.std.proofs.Common.{sym, refl, ap, subst, Result, Ok, ◌∙◌, arith}
use Rattle.segment_core.specs.declared.answers.ReadFault.{ReadFault}
use Rattle.segment_theorems.specs.Means.{MeansAt}
use Rattle.node_cell.specs.View.{ViewData}
use Rattle.node_cell.specs.Reading.{IsViewResult, ReportsRead}
use Rattle.node_cell.proofs.Keeping.{log_page, tells}
use Rattle.node_cell.proofs.kept.Kept.read.Goals.{in-Ok, in-Err}
use Rattle.node_cell.proofs.kept.Kept.read.Goals as goal

pub new-requires : goal.new-requires
new-requires g c =
    let roster = g.L.LogName.roster in
    let log = g.L.LogName.log in
    let sound = g.met.L.LogName.sound in
    let k = c.self.invariant in
    let m = k.means.1 in
    let lent = subst (λ x. MeansAt roster log k.facts k.means.0 x.segment) (sym c.deref_mut.ensures.value) m in
    log_page roster log k.facts k.means.0 c.front-epoch.result.epoch c.args.page c.args.point c.in-Ok.image sound m.part m.position
    (c.front-epoch.ensures.front roster log k.facts k.means.0 sound (subst (MeansAt roster log k.facts k.means.0) (sym (c.segment.ensures ∙ ap (λ x. x.segment) c.deref.ensures)) m)).epoch
    (c.in-Ok.ensures.result roster log k.facts k.means.0 sound lent)

pub returns-clause-answer : goal.returns-clause-answer
returns-clause-answer g c =
    let roster = g.L.LogName.roster in
    let log = g.L.LogName.log in
    let sound = g.met.L.LogName.sound in
    let k = c.self.invariant in
    let m = k.means.1 in
    let lent = subst (λ x. MeansAt roster log k.facts k.means.0 x.segment) (sym c.deref_mut.ensures.value) m in
    let ReportsAnswer : Result ViewData ReadFault → Type 0 = λ r. IsViewResult k.facts k.means.0 c.args.page c.args.point r in
    let answer : ReportsAnswer c.match-read.result = elim c.match-read.branch [
      | in-Ok w ↦ subst ReportsAnswer (sym w.result-is) (subst (λ v. ReportsAnswer (Ok v)) (sym w.new.ensures) (
        (c.front-epoch.ensures.front roster log k.facts k.means.0 sound (subst (MeansAt roster log k.facts k.means.0) (sym (c.segment.ensures ∙ ap (λ x. x.segment) c.deref.ensures)) m)).epoch,
        refl,
        refl,
        w.in-Ok.ensures.result roster log k.facts k.means.0 sound lent,
      ))
      | in-Err w ↦ subst ReportsAnswer (sym w.result-is) (w.in-Err.ensures.result roster log k.facts k.means.0 sound lent)
    ] in
    subst (λ t. ReportsRead roster log t c.args.page c.args.point c.match-read.result) (ap (λ k. k.trail) c.self.view_is)
    (tells roster log c.self.inside.segment.value.segment c.self.inside.trail.items c.args.page c.args.point c.match-read.result k answer)

pub returns-clause-keeps : goal.returns-clause-keeps
returns-clause-keeps g c = grind (arith, common_steps)

pub invariant_of-self : goal.invariant_of-self
invariant_of-self g c = grind (arith, common_steps)
