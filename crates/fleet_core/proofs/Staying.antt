-- No step takes a message away or changes one.
use Rattle.std.proofs.Common.{◌≡◌, ℕ, List, [], ◌++◌, length, ◌∙◌, Option, rules}
use Rattle.std.specs.Prelude.{MatchOption}
use Rattle.redo_core.specs.declared.facts.Fact.{Fact}
use Rattle.script_steps.specs.Nodes.{nodes_of, first_missing}
use Rattle.script_steps.specs.declared.steps.Step.{Step}
use Rattle.fleet_core.specs.declared.replies.Reply.{Reply}
use Rattle.fleet_core.specs.declared.replies.Reply.TheVariants.{NoNode}
use Rattle.fleet_core.specs.declared.making.Made.{Made}
use Rattle.fleet_core.specs.FleetState.{FleetState}
use Rattle.fleet_core.specs.Calls.{Calls}
use Rattle.fleet_core.specs.Laws.{MessagesStay}

abbrev Stay : List Made → List Made → Type 0
Stay messages made = (more : List Made) × (made ≡ messages ++ more)

step_stays : (old new : FleetState) (x : Step Fact) (reply : Reply) (o : Option ℕ)
    → MatchOption o (Calls old x reply new) (λ node. (reply ≡ NoNode node) × (new ≡ old)) → Stay old.messages new.messages
step_stays old new x reply o h = search rules

pub messages_stay : MessagesStay
messages_stay old new x reply h = step_stays old new x reply (first_missing (length old.segments) (nodes_of x)) h
