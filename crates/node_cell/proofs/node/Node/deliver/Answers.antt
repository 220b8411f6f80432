use Rattle.std.proofs.lemmas.Grind.{common_steps}
use Rattle.std.proofs.Common.{rules, arith, ◌≡◌, ◌++◌, ◌∷◌, [], ℕ, ap, subst}
use Rattle.node_cell.specs.Kept.{KeptData}
use Rattle.node_cell.proofs.Keeping.{front_of_list}
use Rattle.node_cell.proofs.Retaining.{retains_same, retains_place, from_found, is_from, runs_section, quiet_section}
use Rattle.node_cell.proofs.node.Node.deliver.Goals as goal

pub post-section-requires-clause-retained : goal.post-section-requires-clause-retained
post-section-requires-clause-retained g c =
    let roster = g.L.LogName.roster in
    let log = g.L.LogName.log in
    from_found roster log c.take-turn.result.found.value c.take-turn.result.state c.put-answer.new.self c.take-turn.ensures.found
    (retains_place roster log c.take-turn.result.state.segment c.put-answer.new.self.segment c.args.fact.place g.met.L.LogName.sound
    c.in-Ok.ensures.takes)

pub returns-in-Ok-clause-section : goal.returns-in-Ok-clause-section
returns-in-Ok-clause-section g c =
    let roster = g.L.LogName.roster in
    let log = g.L.LogName.log in
    runs_section roster log _ c.take-turn.result.state c.put-answer.new.self c.post-section.result _ _
    (is_from roster log _ _ _ _ _ _ (search rules) c.take-turn.ensures.found c.post-section.ensures.section) c.take-turn.ensures.state
    (retains_place roster log c.take-turn.result.state.segment c.put-answer.new.self.segment c.args.fact.place g.met.L.LogName.sound
    c.in-Ok.ensures.takes)
    (subst (λ (n : ℕ). c.put-answer.new.self.trail ≡ c.take-turn.result.state.trail ++ (n, c.args.fact.place) ∷ []) c.number-number.ensures
    c.in-Ok.ensures.trail.0)
    c.in-Ok.ensures.takes

pub give-section-requires-clause-retained : goal.give-section-requires-clause-retained
give-section-requires-clause-retained g c =
    let roster = g.L.LogName.roster in
    let log = g.L.LogName.log in
    from_found roster log c.take-turn.result.found.value c.take-turn.result.state c.put-answer.new.self c.take-turn.ensures.found
    (retains_same roster log c.take-turn.result.state.segment c.put-answer.new.self.segment
    (ap (λ (k : KeptData). k.segment) c.in-Err.ensures.unchanged))

pub returns-in-Err-clause-section : goal.returns-in-Err-clause-section
returns-in-Err-clause-section g c =
    let roster = g.L.LogName.roster in
    let log = g.L.LogName.log in
    let same = ap (λ (k : KeptData). k.segment) c.in-Err.ensures.unchanged in
    quiet_section roster log _ c.take-turn.result.state c.put-answer.new.self c.give-section.result _
    (is_from roster log _ _ _ _ _ _ (search rules) c.take-turn.ensures.found c.give-section.ensures.section) c.take-turn.ensures.state
    (retains_same roster log c.take-turn.result.state.segment c.put-answer.new.self.segment same)
    (ap (λ (k : KeptData). k.trail) c.in-Err.ensures.unchanged) same

pub returns-in-Ok-clause-front : goal.returns-in-Ok-clause-front
returns-in-Ok-clause-front g c =
    front_of_list g.L.LogName.roster g.L.LogName.log c.take-turn.result.state.trail c.args.pass.now.number c.args.pass.now.list c.args.fact.place _
    (search (rules, c.in-Ok.ensures.front)) c.take-turn.ensures.has

pub publish-requires-clause-node : goal.publish-requires-clause-node
publish-requires-clause-node g c = grind (arith, common_steps)

pub publish-requires-clause-own : goal.publish-requires-clause-own
publish-requires-clause-own g c = grind (arith, common_steps)

pub invariant_of-turn : goal.invariant_of-turn
invariant_of-turn g c = grind (arith, common_steps)

pub returns-in-Ok-clause-place : goal.returns-in-Ok-clause-place
returns-in-Ok-clause-place g c = grind (arith, common_steps)

pub returns-in-Ok-clause-reached : goal.returns-in-Ok-clause-reached
returns-in-Ok-clause-reached g c = grind (arith, common_steps)

pub invariant_of-turn-in-Err : goal.invariant_of-turn-in-Err
invariant_of-turn-in-Err g c = grind (arith, common_steps)

pub returns-in-Err-clause-refused : goal.returns-in-Err-clause-refused
returns-in-Err-clause-refused g c = grind (arith, common_steps)

pub returns-in-Err-clause-board : goal.returns-in-Err-clause-board
returns-in-Err-clause-board g c = grind (arith, common_steps)

pub returns-in-Err-clause-unchanged : goal.returns-in-Err-clause-unchanged
returns-in-Err-clause-unchanged g c = grind (arith, common_steps)

pub returns-in-Ok-clause-board : goal.returns-in-Ok-clause-board
returns-in-Ok-clause-board g c = grind (arith, common_steps)

pub returns-in-Err-clause-back : goal.returns-in-Err-clause-back
returns-in-Err-clause-back g c = grind (arith, common_steps)

pub post-section-requires-clause-trail : goal.post-section-requires-clause-trail
post-section-requires-clause-trail g c = grind (arith, common_steps)

pub give-section-requires-clause-trail : goal.give-section-requires-clause-trail
give-section-requires-clause-trail g c = grind (arith, common_steps)

pub returns-in-Ok-clause-publishes : goal.returns-in-Ok-clause-publishes
returns-in-Ok-clause-publishes g c = grind (arith, common_steps)

pub returns-in-Ok-clause-list : goal.returns-in-Ok-clause-list
returns-in-Ok-clause-list g c = search rules
