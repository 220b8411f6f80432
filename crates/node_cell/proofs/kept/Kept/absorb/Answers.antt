use Rattle.std.proofs.lemmas.Grind.{common_steps}
use Rattle.std.proofs.Common.{◌++◌, subst, sym, ap, ◌∙◌, arith}
use Rattle.segment_theorems.specs.Means.{MeansAt}
use Rattle.gossip_core.specs.Absorbing.{MeansBoth}
use Rattle.node_cell.specs.Kept.{MeansTrail}
use Rattle.node_cell.specs.Gossiping.{RefusesMail}
use Rattle.node_cell.proofs.Keeping.{log_front}
use Rattle.node_cell.proofs.Gossiped.{both_meant, keeps_both, front_with_mail, refuses_mail}
use Rattle.node_cell.proofs.kept.Kept.absorb.Goals as goal

pub new-requires : goal.new-requires
new-requires g c =
    let roster = g.L.LogName.roster in
    let log = g.L.LogName.log in
    let sound = g.met.L.LogName.sound in
    let trail = c.self.inside.trail.items in
    let old = c.deref_mut.result.now.segment in
    let new = c.absorb.new.self.segment in
    let k : MeansTrail roster log old trail = subst (λ x. MeansTrail roster log x.segment trail) (sym c.deref_mut.ensures.value) c.self.invariant in
    let own = c.summary.ensures.own in
    let m = both_meant roster log old new trail c.args.mail c.summary.result.now c.delta.result.now sound k own c.summary.ensures.value
    c.delta.ensures.value c.in_default.ensures.means in
    let both = k.facts ++ own.facts in
    log_front roster log both new c.front-front.result sound m
    (c.front-front.ensures.front roster log both m.0 sound (subst (MeansAt roster log both m.0) (sym (c.segment.ensures ∙ ap (λ x. x.segment) c.deref.ensures)) m.1))

pub invariant_of-self-2 : goal.invariant_of-self-2
invariant_of-self-2 g c =
    let roster = g.L.LogName.roster in
    let log = g.L.LogName.log in
    let sound = g.met.L.LogName.sound in
    let trail = c.self.inside.trail.items in
    let old = c.deref_mut.result.now.segment in
    let new = c.absorb.new.self.segment in
    let k : MeansTrail roster log old trail = subst (λ x. MeansTrail roster log x.segment trail) (sym c.deref_mut.ensures.value) c.self.invariant in
    let own = c.summary.ensures.own in
    let m = both_meant roster log old new trail c.args.mail c.summary.result.now c.delta.result.now sound k own c.summary.ensures.value
    c.delta.ensures.value c.in_default.ensures.means in
    keeps_both roster log old new trail own.facts k m

pub returns-clause-keeps : goal.returns-clause-keeps
returns-clause-keeps g c = invariant_of-self-2 g c

pub returns-clause-meaning : goal.returns-clause-meaning
returns-clause-meaning g c =
    let old = c.deref_mut.result.now in
    let new = c.absorb.new.self.segment in
    subst (λ s. MeansBoth s c.args.mail.summary c.args.mail.delta new) (ap (λ k. k.segment) c.self.view_is)
    (subst (λ x. MeansBoth x.segment c.args.mail.summary c.args.mail.delta new) c.deref_mut.ensures.value
    (subst (λ x. MeansBoth old.segment x c.args.mail.delta new) c.summary.ensures.value
    (subst (λ d. MeansBoth old.segment c.summary.result.now d new) c.delta.ensures.value c.in_default.ensures.means)))

pub returns-clause-front : goal.returns-clause-front
returns-clause-front g c =
    let roster = g.L.LogName.roster in
    let log = g.L.LogName.log in
    let sound = g.met.L.LogName.sound in
    let trail = c.self.inside.trail.items in
    let old = c.deref_mut.result.now.segment in
    let new = c.absorb.new.self.segment in
    let k : MeansTrail roster log old trail = subst (λ x. MeansTrail roster log x.segment trail) (sym c.deref_mut.ensures.value) c.self.invariant in
    let own = c.summary.ensures.own in
    let m = both_meant roster log old new trail c.args.mail c.summary.result.now c.delta.result.now sound k own c.summary.ensures.value
    c.delta.ensures.value c.in_default.ensures.means in
    let both = k.facts ++ own.facts in
    front_with_mail roster log new c.args.mail k.facts c.front-front.result c.new.result own m
    (c.front-front.ensures.front roster log both m.0 sound (subst (MeansAt roster log both m.0) (sym (c.segment.ensures ∙ ap (λ x. x.segment) c.deref.ensures)) m.1)) c.new.ensures

pub returns-in-Err-clause-refused : goal.returns-in-Err-clause-refused
returns-in-Err-clause-refused g c =
    let roster = g.L.LogName.roster in
    let log = g.L.LogName.log in
    let trail = c.self.inside.trail.items in
    let old = c.deref_mut.result.now.segment in
    let k : MeansTrail roster log old trail = subst (λ x. MeansTrail roster log x.segment trail) (sym c.deref_mut.ensures.value) c.self.invariant in
    subst (λ s. RefusesMail roster log s c.args.mail c.absorb_fault.result) (ap (λ x. x.segment) c.deref_mut.ensures.value ∙ ap (λ k. k.segment) c.self.view_is)
    (subst (λ f. RefusesMail roster log old c.args.mail f) (sym c.absorb_fault.ensures)
    (refuses_mail roster log old trail c.args.mail c.summary.result.now c.delta.result.now c.in-Err.why g.met.L.LogName.sound k
    c.summary.ensures.value c.in-Err.ensures.refused))

pub returns-clause-back : goal.returns-clause-back
returns-clause-back g c = grind (arith, common_steps)

pub same-mail : goal.same-mail
same-mail g c = grind (arith, common_steps)

pub invariant_of-self : goal.invariant_of-self
invariant_of-self g c = grind (arith, common_steps)

pub returns-in-Err-clause-keeps : goal.returns-in-Err-clause-keeps
returns-in-Err-clause-keeps g c = grind (arith, common_steps)

pub returns-clause-refused : goal.returns-clause-refused
returns-clause-refused g c = grind (arith, common_steps)

pub returns-clause-unchanged : goal.returns-clause-unchanged
returns-clause-unchanged g c = grind (arith, common_steps)

pub returns-clause-trail : goal.returns-clause-trail
returns-clause-trail g c = grind (arith, common_steps)

pub returns-in-Err-clause-trail : goal.returns-in-Err-clause-trail
returns-in-Err-clause-trail g c = grind (arith, common_steps)

pub returns-in-Err-clause-unchanged : goal.returns-in-Err-clause-unchanged
returns-in-Err-clause-unchanged g c = grind (arith, common_steps)
