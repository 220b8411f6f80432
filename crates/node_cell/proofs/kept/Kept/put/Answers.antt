use Rattle.std.proofs.lemmas.Grind.{common_steps}
use Rattle.std.proofs.Common.{rules, arith, ◌≡◌, ◌∙◌, ◌<◌, ◌++◌, ◌∷◌, [], length, refl, subst, sym, ap}
use Rattle.std.specs.Prelude.{vec_len}
use Rattle.segment_theorems.specs.Means.{MeansAt}
use Rattle.segment_theorems.specs.Promises.{TakesFact}
use Rattle.node_cell.specs.Kept.{MeansTrail}
use Rattle.node_cell.specs.Delivering.{IsFrontWith}
use Rattle.node_cell.proofs.Places.{in_log}
use Rattle.node_cell.proofs.Keeping.{keeps, front_with, log_front}
use Rattle.node_cell.proofs.kept.Kept.put.Goals as goal

pub new-requires : goal.new-requires
new-requires g c =
    let roster = g.L.LogName.roster in
    let log = g.L.LogName.log in
    let sound = g.met.L.LogName.sound in
    let k : MeansTrail roster log c.deref_mut.result.now.segment c.self.inside.trail.items =
    subst (λ x. MeansTrail roster log x.segment c.self.inside.trail.items) (sym c.deref_mut.ensures.value) c.self.invariant in
    let f = c.into_fact.result in
    let m = c.in-Ok.ensures.takes.means roster log k.facts sound (in_log log c.args.fact.place f c.into_fact.ensures.stands) k.means in
    log_front roster log (k.facts ++ f ∷ []) c.take.new.self.segment c.front-front.result sound m
    (c.front-front.ensures.front roster log (k.facts ++ f ∷ []) m.0 sound (subst (MeansAt roster log (k.facts ++ f ∷ []) m.0) (sym (c.segment.ensures ∙ ap (λ x. x.segment) c.deref.ensures)) m.1))

pub invariant_of-self-in-Ok : goal.invariant_of-self-in-Ok
invariant_of-self-in-Ok g c =
    let roster = g.L.LogName.roster in
    let log = g.L.LogName.log in
    let sound = g.met.L.LogName.sound in
    let k : MeansTrail roster log c.deref_mut.result.now.segment c.self.inside.trail.items =
    subst (λ x. MeansTrail roster log x.segment c.self.inside.trail.items) (sym c.deref_mut.ensures.value) c.self.invariant in
    let f = c.into_fact.result in
    let at = c.into_fact.ensures.stands in
    let m = c.in-Ok.ensures.takes.means roster log k.facts sound (in_log log c.args.fact.place f at) k.means in
    let items : c.push_reserved.new.self.items ≡ c.self.inside.trail.items ++ (c.args.number, c.args.fact.place) ∷ [] =
    c.push_reserved.ensures.items ∙ rw (c.reserve.ensures.items, c.place-place.ensures.value) refl in
    subst (MeansTrail roster log c.take.new.self.segment) (sym items)
    (keeps roster log c.deref_mut.result.now.segment c.take.new.self.segment c.self.inside.trail.items c.args.number c.args.fact.place f k at m)

pub returns-in-Ok-clause-keeps : goal.returns-in-Ok-clause-keeps
returns-in-Ok-clause-keeps g c = invariant_of-self-in-Ok g c

pub returns-in-Ok-clause-front : goal.returns-in-Ok-clause-front
returns-in-Ok-clause-front g c =
    let roster = g.L.LogName.roster in
    let log = g.L.LogName.log in
    let sound = g.met.L.LogName.sound in
    let k : MeansTrail roster log c.deref_mut.result.now.segment c.self.inside.trail.items =
    subst (λ x. MeansTrail roster log x.segment c.self.inside.trail.items) (sym c.deref_mut.ensures.value) c.self.invariant in
    let f = c.into_fact.result in
    let at = c.into_fact.ensures.stands in
    let m = c.in-Ok.ensures.takes.means roster log k.facts sound (in_log log c.args.fact.place f at) k.means in
    let is = c.front-front.ensures.front roster log (k.facts ++ f ∷ []) m.0 sound
    (subst (MeansAt roster log (k.facts ++ f ∷ []) m.0) (sym (c.segment.ensures ∙ ap (λ x. x.segment) c.deref.ensures)) m.1) in
    subst (λ t. IsFrontWith roster log t c.args.fact.place c.new.result) (ap (λ k. k.trail) c.self.view_is)
    (front_with roster log c.deref_mut.result.now.segment c.take.new.self.segment c.self.inside.trail.items c.args.fact.place f c.front-front.result
    c.new.result k at m is c.new.ensures)

pub unreachable-requires : goal.unreachable-requires
unreachable-requires g c =
    let roster = g.L.LogName.roster in
    let log = g.L.LogName.log in
    let k : MeansTrail roster log c.deref_mut.result.now.segment c.self.inside.trail.items =
    subst (λ x. MeansTrail roster log x.segment c.self.inside.trail.items) (sym c.deref_mut.ensures.value) c.self.invariant in
    c.in_default.not-Memory (c.in-Err.ensures.sound (
      roster,
      log,
      k.facts,
      g.met.L.LogName.sound,
      in_log log c.args.fact.place c.into_fact.result c.into_fact.ensures.stands,
      k.means,
    ))

pub returns-in-Ok-clause-room : goal.returns-in-Ok-clause-room
returns-in-Ok-clause-room g c =
    let count : length c.self.inside.trail.items ≡ vec_len c.self.inside.trail = search rules in
    subst (λ n. n < c.args.capacity) (ap (λ k. length k.trail) c.self.view_is) (omega (arith, c.len.ensures, c.if-len-capacity.false, count))

pub returns-in-Memory-clause-refused : goal.returns-in-Memory-clause-refused
returns-in-Memory-clause-refused g c =
    let count : length c.self.inside.trail.items ≡ vec_len c.self.inside.trail = search rules in
    subst (λ n. n < c.args.capacity) (ap (λ k. length k.trail) c.self.view_is) (omega (arith, c.len.ensures, c.if-len-capacity.false, count))

pub returns-in-Ok-clause-takes : goal.returns-in-Ok-clause-takes
returns-in-Ok-clause-takes g c =
    let f = c.into_fact.result in (
      f,
      c.into_fact.ensures.stands,
      subst (λ s. TakesFact s f c.take.new.self.segment) (ap (λ x. x.segment) c.deref_mut.ensures.value ∙ ap (λ k. k.segment) c.self.view_is) c.in-Ok.ensures.takes.means,
    )

pub invariant_of-self : goal.invariant_of-self
invariant_of-self g c = subst (MeansTrail g.L.LogName.roster g.L.LogName.log c.self.inside.segment.value.segment) (sym c.reserve.ensures.items) c.self.invariant

pub returns-then-is_err-clause-keeps : goal.returns-then-is_err-clause-keeps
returns-then-is_err-clause-keeps g c = invariant_of-self g c

pub invariant_of-self-in-Err : goal.invariant_of-self-in-Err
invariant_of-self-in-Err g c =
    let roster = g.L.LogName.roster in
    let log = g.L.LogName.log in
    subst (λ s. MeansTrail roster log s c.reserve.new.self.items) (sym (ap (λ x. x.segment) (c.in-Err.ensures.unchanged ∙ c.deref_mut.ensures.value)))
    (subst (MeansTrail roster log c.self.inside.segment.value.segment) (sym c.reserve.ensures.items) c.self.invariant)

pub returns-in-Memory-clause-keeps : goal.returns-in-Memory-clause-keeps
returns-in-Memory-clause-keeps g c = invariant_of-self-in-Err g c

pub returns-then-is_err-clause-unchanged : goal.returns-then-is_err-clause-unchanged
returns-then-is_err-clause-unchanged g c = grind (arith, common_steps)

pub returns-in-Memory-clause-back : goal.returns-in-Memory-clause-back
returns-in-Memory-clause-back g c = grind (arith, common_steps)

pub returns-then-len-capacity-clause-refused : goal.returns-then-len-capacity-clause-refused
returns-then-len-capacity-clause-refused g c = grind (arith, common_steps)

pub returns-then-len-capacity-clause-keeps : goal.returns-then-len-capacity-clause-keeps
returns-then-len-capacity-clause-keeps g c = grind (arith, common_steps)

pub new-requires-in-Err : goal.new-requires-in-Err
new-requires-in-Err g c = grind (arith, common_steps)

pub returns-in-Memory-clause-unchanged : goal.returns-in-Memory-clause-unchanged
returns-in-Memory-clause-unchanged g c = grind (arith, common_steps)
