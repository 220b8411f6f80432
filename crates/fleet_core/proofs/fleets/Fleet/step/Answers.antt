use Rattle.std.proofs.Common.{◌≡◌, ◌-◌, length, sym, ap, ◌∙◌, subst, rules, Some, arith}
use Rattle.std.proofs.lemmas.Grind.{common_steps}
use Rattle.std.specs.Prelude.{vec_len}
use Rattle.std.specs.Vec.{with_items}
use Rattle.script_steps.specs.Nodes.{nodes_of, first_missing}
use Rattle.fleet_core.specs.declared.replies.Reply.TheVariants.{NoNode}
use Rattle.fleet_core.specs.FleetState.{FleetState}
use Rattle.fleet_core.specs.Runs.{FollowsStep}
use Rattle.fleet_core.proofs.Nodes.{follows_no_node, named_at, steps_in}
use Rattle.fleet_core.proofs.fleets.Fleet.step.Goals as goal

pub returns-in-Some-clause-follows : goal.returns-in-Some-clause-follows
returns-in-Some-clause-follows c =
    let items = c.self.inside.nodes.items in
    let count : length items ≡ vec_len c.self.inside.nodes = search rules in
    let missing : first_missing (length items) (nodes_of c.args.step.now) ≡ Some c.in-Some.node =
    ap (λ n. first_missing n (nodes_of c.args.step.now)) (count ∙ sym c.len.ensures) ∙ sym c.missing.ensures ∙ c.in-Some.is in
    let fleet : FleetState = record { roster = c.self.inside.roster; segments = items; messages = c.self.inside.messages.items } in
    subst (λ (f : FleetState). FollowsStep f c.args.step.now (NoNode c.in-Some.node) f) c.self.view_is
    (follows_no_node fleet c.args.step.now c.in-Some.node missing)

pub returns-in-Some-clause-no_message : goal.returns-in-Some-clause-no_message
returns-in-Some-clause-no_message c = search rules

pub returns-clause-follows : goal.returns-clause-follows
returns-clause-follows c =
    let nodes = c.self.inside.nodes in
    let kept = c.self.inside.messages.items in
    let made = c.carry_out_at.new.messages.items in
    let count : vec_len nodes ≡ length nodes.items = search rules in
    let missing = c.missing.ensures ∙ ap (λ n. first_missing n (nodes_of c.args.step.now)) (c.len.ensures ∙ count) in
    let at = named_at (length nodes.items) c.args.step.now c.missing.result c.from-place.result c.from-other.result missing c.in_default.not-Some
    (c.from-place.ensures ∙ c.node.ensures) (c.from-other.ensures ∙ c.other.ensures) in
    let out =
    steps_in c.self.inside.roster nodes kept c.deref_mut.result.now c.args.step.now c.carry_out_at.result c.carry_out_at.new.segments made
    (c.from-place.result - 1) (c.from-other.result - 1) at c.deref_mut.ensures.value c.carry_out_at.ensures in
    subst (λ (f : FleetState). FollowsStep f c.args.step.now c.carry_out_at.result
    (record { roster = c.self.inside.roster; segments = (with_items nodes c.carry_out_at.new.segments).items; messages = made })) c.self.view_is out.follows

pub returns-clause-calls : goal.returns-clause-calls
returns-clause-calls c = grind (arith, common_steps)

pub returns-clause-no_node : goal.returns-clause-no_node
returns-clause-no_node c = search rules

pub returns-clause-no_message : goal.returns-clause-no_message
returns-clause-no_message c = search rules

pub returns-clause-refused : goal.returns-clause-refused
returns-clause-refused c =
    let nodes = c.self.inside.nodes in
    let kept = c.self.inside.messages.items in
    let made = c.carry_out_at.new.messages.items in
    let count : vec_len nodes ≡ length nodes.items = search rules in
    let missing = c.missing.ensures ∙ ap (λ n. first_missing n (nodes_of c.args.step.now)) (c.len.ensures ∙ count) in
    let at = named_at (length nodes.items) c.args.step.now c.missing.result c.from-place.result c.from-other.result missing c.in_default.not-Some
    (c.from-place.ensures ∙ c.node.ensures) (c.from-other.ensures ∙ c.other.ensures) in
    let out =
    steps_in c.self.inside.roster nodes kept c.deref_mut.result.now c.args.step.now c.carry_out_at.result c.carry_out_at.new.segments made
    (c.from-place.result - 1) (c.from-other.result - 1) at c.deref_mut.ensures.value c.carry_out_at.ensures in
    λ refused. out.refused refused ∙ c.self.view_is
