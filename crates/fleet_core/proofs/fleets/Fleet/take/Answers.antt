use Rattle.std.proofs.Common.{◌≡◌, ◌∙◌, subst, ℕ, ◌<◌, ◌↔◌, ◌⊎◌, inl, inr, [], ◌∷◌, length, arith, rules, None, Some}
use Rattle.std.specs.Prelude.{vec_len}
use Rattle.std.specs.Vec.{with_items}
use Rattle.script_steps.specs.Nodes.{first_missing}
use Rattle.script_steps.specs.declared.steps.Step.TheVariants.{Take}
use Rattle.fleet_core.specs.declared.replies.Reply.TheVariants.{NoNode}
use Rattle.fleet_core.specs.FleetState.{FleetState}
use Rattle.fleet_core.specs.Runs.{FollowsStep}
use Rattle.fleet_core.proofs.Places.{is_missing}
use Rattle.fleet_core.proofs.Nodes.{follows_no_node, takes_in}
use Rattle.fleet_core.proofs.fleets.Fleet.take.Goals.{then-node-eq0-via-then-node-eq0, then-node-eq0-via-else-node-eq0+then-from-len}
use Rattle.fleet_core.proofs.fleets.Fleet.take.Goals as goal

pub returns-then-node-eq0-clause-follows : goal.returns-then-node-eq0-clause-follows
returns-then-node-eq0-clause-follows c =
    let items = c.self.inside.nodes.items in
    let count : length items ≡ vec_len c.self.inside.nodes = search rules in
    let out : (c.args.node ≡ 0) ⊎ (length items < c.args.node) = elim c.then-node-eq0.branch [
      | then-node-eq0-via-then-node-eq0 w ↦ inl w.if-node-eq0.true
      | then-node-eq0-via-else-node-eq0+then-from-len w ↦ inr (omega (arith, w.from.ensures, w.len.ensures, w.if-from-len.true, count))
    ] in
    let fleet : FleetState = record { roster = c.self.inside.roster; segments = items; messages = c.self.inside.messages.items } in
    subst (λ (f : FleetState). FollowsStep f (Take c.args.node c.args.fact) (NoNode c.args.node) f) c.self.view_is
    (follows_no_node fleet (Take c.args.node c.args.fact) c.args.node (is_missing (length items) c.args.node out))

pub returns-clause-follows : goal.returns-clause-follows
returns-clause-follows c =
    let nodes = c.self.inside.nodes in
    let kept = c.self.inside.messages.items in
    let count : length nodes.items ≡ vec_len nodes = search rules in
    let out =
    takes_in c.self.inside.roster nodes kept c.deref_mut.result.now c.take_at.new.segments c.args.node c.args.fact c.take_at.result c.from-2.result
    c.if-node-eq0.false (omega (arith, c.from.ensures, c.len.ensures, c.if-from-len.false, count)) c.from-2.ensures c.deref_mut.ensures.value
    (c.take_at.ensures c.self.inside.roster kept) in
    subst (λ (f : FleetState). FollowsStep f (Take c.args.node c.args.fact) c.take_at.result
    (record { roster = c.self.inside.roster; segments = (with_items nodes c.take_at.new.segments).items; messages = kept })) c.self.view_is out.follows

pub returns-clause-calls : goal.returns-clause-calls
returns-clause-calls c = search (rules, takes_in)

pub returns-clause-no_node : goal.returns-clause-no_node
returns-clause-no_node c =
    let nodes = c.self.inside.nodes in
    let kept = c.self.inside.messages.items in
    let count : length nodes.items ≡ vec_len nodes = search rules in
    let out =
    takes_in c.self.inside.roster nodes kept c.deref_mut.result.now c.take_at.new.segments c.args.node c.args.fact c.take_at.result c.from-2.result
    c.if-node-eq0.false (omega (arith, c.from.ensures, c.len.ensures, c.if-from-len.false, count)) c.from-2.ensures c.deref_mut.ensures.value
    (c.take_at.ensures c.self.inside.roster kept) in
    subst (λ (f : FleetState). (missing : ℕ) → (c.take_at.result ≡ NoNode missing) ↔ (first_missing (length f.segments) (c.args.node ∷ []) ≡ Some missing))
    c.self.view_is out.no_node

pub returns-clause-no_message : goal.returns-clause-no_message
returns-clause-no_message c =
    let nodes = c.self.inside.nodes in
    let kept = c.self.inside.messages.items in
    let count : length nodes.items ≡ vec_len nodes = search rules in
    let out =
    takes_in c.self.inside.roster nodes kept c.deref_mut.result.now c.take_at.new.segments c.args.node c.args.fact c.take_at.result c.from-2.result
    c.if-node-eq0.false (omega (arith, c.from.ensures, c.len.ensures, c.if-from-len.false, count)) c.from-2.ensures c.deref_mut.ensures.value
    (c.take_at.ensures c.self.inside.roster kept) in
    λ number e. absurd (let none : None ≡ Some number = ((out.no_message number).0 e).1 in
    cc)

pub returns-clause-refused : goal.returns-clause-refused
returns-clause-refused c =
    let nodes = c.self.inside.nodes in
    let kept = c.self.inside.messages.items in
    let count : length nodes.items ≡ vec_len nodes = search rules in
    let out =
    takes_in c.self.inside.roster nodes kept c.deref_mut.result.now c.take_at.new.segments c.args.node c.args.fact c.take_at.result c.from-2.result
    c.if-node-eq0.false (omega (arith, c.from.ensures, c.len.ensures, c.if-from-len.false, count)) c.from-2.ensures c.deref_mut.ensures.value
    (c.take_at.ensures c.self.inside.roster kept) in
    λ refused. out.refused refused ∙ c.self.view_is
