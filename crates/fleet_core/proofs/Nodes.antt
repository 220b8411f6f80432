-- The machine's sets beside the segments, node by node.
use Rattle.std.proofs.Common.{◌≡◌, ℕ, zero, suc, ◌+◌, ◌-◌, ◌<◌, ◌≤◌, ◌↔◌, List, [], length, get_or, set, replicate, sym, ap, ◌∙◌, subst, arith, Option, Some, None, rules}
use Rattle.std.proofs.lemmas.Grind.{common_steps}
use Rattle.std.specs.Prelude.{MatchOption, unwrap_or}
use Rattle.std.specs.List.{AllZip}
use Rattle.std.specs.Vec.{with_items}
use Rattle.std.specs.declared.vec.Vec.{Vec}
use Rattle.std.proofs.lemmas.List.{length-set, set-get_or, with_items_is}
use Rattle.std.proofs.lemmas.Option.{get_or_from_slice_get}
use Rattle.redo_core.specs.declared.facts.Fact.{Fact}
use Rattle.segment_theorems.specs.State.{State}
use Rattle.segment_theorems.specs.Means.{Means}
use Rattle.script_steps.specs.Nodes.{node_of, other_of, nodes_of, first_missing}
use Rattle.script_steps.specs.declared.steps.Step.{Step}
use Rattle.script_steps.specs.declared.steps.Step.TheVariants as step
use Rattle.fleet_core.specs.declared.replies.Reply.{Reply}
use Rattle.fleet_core.specs.declared.replies.Reply.TheVariants.{NoNode, NoMessage}
use Rattle.fleet_core.specs.declared.making.Made.{Made}
use Rattle.fleet_core.specs.Messages.{LacksMessage}
use Rattle.fleet_core.specs.Machine.{Machine, node_facts, facts_after, after}
use Rattle.fleet_core.specs.Replies.{Replies}
use Rattle.fleet_core.specs.FleetState.{FleetState, other_than}
use Rattle.fleet_core.specs.Refused.{IsRefusal}
use Rattle.fleet_core.specs.AtNode.{CarriesOut}
use Rattle.fleet_core.specs.Calls.{StepCalls}
use Rattle.fleet_core.specs.Runs.{FollowsStep}
use Rattle.fleet_core.proofs.Places.{AreThere, none_is_missing, are_there, beside_is, zip_at, zip_set, zip_count}

-- ---- a named node that is not there

after_no_node : (m : Machine) (s : Step Fact) (i : ℕ) → m ≡ after m s (NoNode i)
after_no_node m s i = grind (arith, common_steps)

pub follows_no_node : (fleet : FleetState) (s : Step Fact) (i : ℕ) → first_missing (length fleet.segments) (nodes_of s) ≡ Some i
    → FollowsStep fleet s (NoNode i) fleet
follows_no_node fleet s i missing = search (rules, zip_count, after_no_node)

-- ---- a step whose nodes are there

-- the fleet with other segments and messages
abbrev pub with_all : FleetState → List State → List Made → FleetState
with_all fleet segments made = record { roster = fleet.roster; segments = segments; messages = made }

-- the places of the step's nodes, counted from 0, and none of the nodes is missing
pub record AreAt (count : ℕ) (s : Step Fact) (place other : ℕ) : Type 0 where
  pub none : first_missing count (nodes_of s) ≡ None
  pub node : node_of s ≡ place + 1
  pub beside : other_of s ≡ other + 1

pub follows_at : (fleet : FleetState) (s : Step Fact) (reply : Reply) (new : List State) (made : List Made) (place other : ℕ)
    → AreAt (length fleet.segments) s place other → CarriesOut fleet.roster fleet.segments place other fleet.messages s reply new made
    → FollowsStep fleet s reply (with_all fleet new made)
follows_at fleet s reply new made place other at out = λ roster log m sound takes mean.
    let Mean : List Fact → State → Type 0 = λ facts segment. Means roster log facts segment in
    let count : length m.nodes ≡ length fleet.segments = zip_count Mean m.nodes fleet.segments mean.nodes in
    let here : first_missing (length m.nodes) (nodes_of s) ≡ None = ap (λ n. first_missing n (nodes_of s)) count ∙ at.none in
    let there : AreThere (length fleet.segments) (node_of s) (other_of s) = are_there (length fleet.segments) s at.none in
    let low : place ≡ node_of s - 1 = omega (arith, at.node) in
    let aside : other ≡ other_of s - 1 = omega (arith, at.beside) in
    let old : State = out.before in
    let facts = node_facts m (node_of s) in
    let others = node_facts m (other_of s) in
    let own : Mean (get_or m.nodes place []) (get_or fleet.segments place old) =
    zip_at Mean m.nodes fleet.segments place [] old mean.nodes (omega (arith, at.node, there.high)) in
    let its : Mean (get_or m.nodes other []) (get_or fleet.segments other old) =
    zip_at Mean m.nodes fleet.segments other [] old mean.nodes (omega (arith, at.beside, there.other_high)) in
    let means : Mean facts old =
    subst (λ i. Mean (get_or m.nodes i []) old) low
    (subst (λ x. Mean (get_or m.nodes place []) x) (get_or_from_slice_get fleet.segments place old old out.there) own) in
    let means_other : Mean others (unwrap_or (other_than fleet.segments place other) old) =
    subst (λ i. Mean (get_or m.nodes i []) (unwrap_or (other_than fleet.segments place other) old)) aside
    (subst (λ x. Mean (get_or m.nodes other []) x) (beside_is fleet.segments place other old out.there) its) in
    let all = out.does.follows roster log facts others m.messages mean.roster_is sound takes means means_other mean.messages in
    let later : List (List Fact) = set m.nodes (node_of s - 1) (facts_after facts others m.messages s reply) in
    let changed : AllZip Mean later (set fleet.segments (node_of s - 1) out.later) =
    zip_set Mean m.nodes fleet.segments (node_of s - 1) (facts_after facts others m.messages s reply) out.later mean.nodes all.1 in (
      subst (λ o. MatchOption o (Replies roster m s reply) (λ node. reply ≡ NoNode node)) (sym here) all.0,
      record {
        roster_is = mean.roster_is;
        nodes = subst (AllZip Mean later) (ap (λ i. set fleet.segments i out.later) (sym low) ∙ sym out.others) changed;
        messages = all.2;
      },
    )

pub calls_at : (fleet : FleetState) (s : Step Fact) (reply : Reply) (new : List State) (made : List Made) (place other : ℕ)
    → AreAt (length fleet.segments) s place other → CarriesOut fleet.roster fleet.segments place other fleet.messages s reply new made
    → StepCalls fleet s reply (with_all fleet new made)
calls_at fleet s reply new made place other at out = search rules

-- the nodes that the step names, none of which is missing
pub named_at : (count : ℕ) (s : Step Fact) (missing : Option ℕ) (node other : ℕ) → missing ≡ first_missing count (nodes_of s)
    → ((x : ℕ) → missing ≡ Some x → ⊥) → node ≡ node_of s → other ≡ other_of s → AreAt count s (node - 1) (other - 1)
named_at count s missing node other is named own its = search rules

-- the segments of a fleet, as its list stores them
pub record StepsIn (old : FleetState) (s : Step Fact) (reply : Reply) (new : FleetState) : Type 0 where
  pub follows : FollowsStep old s reply new
  pub calls : StepCalls old s reply new
  pub no_node : (node : ℕ) → (reply ≡ NoNode node) ↔ (first_missing (length old.segments) (nodes_of s) ≡ Some node)
  pub no_message : (number : ℕ) → (reply ≡ NoMessage number) ↔ LacksMessage old s number
  pub refused : IsRefusal reply → new ≡ old

pub steps_in : {Z : Type 0} (readers : ℕ) (nodes : Vec State Z) (kept : List Made) (given : List State) (s : Step Fact) (reply : Reply) (new : List State)
    (made : List Made) (place other : ℕ) → AreAt (length nodes.items) s place other → given ≡ nodes.items
    → CarriesOut readers given place other kept s reply new made
    → StepsIn (record { roster = readers; segments = nodes.items; messages = kept }) s reply
    (record { roster = readers; segments = (with_items nodes new).items; messages = made })
steps_in readers nodes kept given s reply new made place other at same out_of =
    let out : CarriesOut readers nodes.items place other kept s reply new made =
    subst (λ segments. CarriesOut readers segments place other kept s reply new made) same out_of in
    let old : FleetState = record { roster = readers; segments = nodes.items; messages = kept } in
    let fit : length new ≡ nodes.len = ap length out.others ∙ length-set nodes.items place out.later ∙ sym nodes.ok.0 in
    let put : (with_items nodes new).items ≡ new = with_items_is nodes new fit in
    let left : IsRefusal reply → new ≡ nodes.items =
    λ refused. out.others
    ∙ ap (set nodes.items place) ((out.does.refused refused).0 ∙ sym (get_or_from_slice_get nodes.items place out.before out.before out.there))
    ∙ set-get_or nodes.items place out.before in
    record {
      follows = subst (λ segments. FollowsStep old s reply (with_all old segments made)) (sym put) (follows_at old s reply new made place other at out);
      calls = subst (λ segments. StepCalls old s reply (with_all old segments made)) (sym put) (calls_at old s reply new made place other at out);
      no_node = λ node. (
        λ e. absurd (out.does.found node e),
        λ e. absurd (let none : first_missing (length nodes.items) (nodes_of s) ≡ None = at.none in
            cc),
      );
      no_message = λ number. (λ e. (at.none, (out.does.no_message number).0 e), λ lacks. (out.does.no_message number).1 lacks.1);
      refused = λ refused.
          ap (λ (segments : List State). with_all old segments made) (put ∙ left refused) ∙ ap (with_all old nodes.items) (out.does.refused refused).1;
    }

-- a take at its one node
pub takes_in : {Z : Type 0} (readers : ℕ) (nodes : Vec State Z) (kept : List Made) (given new : List State) (node : ℕ) (fact : Fact) (reply : Reply)
    (from : ℕ) → (node ≡ 0 → ⊥) → node ≤ length nodes.items → from ≡ node → given ≡ nodes.items
    → CarriesOut readers given (from - 1) (from - 1) kept (step.Take node fact) reply new kept
    → StepsIn (record { roster = readers; segments = nodes.items; messages = kept }) (step.Take node fact) reply
    (record { roster = readers; segments = (with_items nodes new).items; messages = kept })
takes_in readers nodes kept given new node fact reply from some high is same out =
    let low : 0 < node = omega (arith, some) in
    steps_in readers nodes kept given (step.Take node fact) reply new kept (from - 1) (from - 1)
    (record {
      none = none_is_missing (length nodes.items) node low high;
      node = omega (arith, low, is);
      beside = omega (arith, low, is);
    }) same out

-- ---- the machine's first state

pub none_mean : (roster : ℕ) (log : List Fact) (count : ℕ) (s : State) → Means roster log [] s
    → AllZip (λ facts segment. Means roster log facts segment) (replicate count []) (replicate count s)
none_mean roster log zero s means = tt
none_mean roster log (suc count) s means = (means, none_mean roster log count s means)
