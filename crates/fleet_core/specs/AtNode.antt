-- A step at the node that carries it out.
use Rattle.std.specs.Prelude.{◌≡◌, ℕ, ◌↔◌, List, set, slice_get, Option, Some, unwrap_or}
use Rattle.redo_core.specs.Sound.{IsSound}
use Rattle.redo_core.specs.declared.facts.Fact.{Fact}
use Rattle.segment_theorems.specs.State.{State}
use Rattle.segment_theorems.specs.Means.{Means}
use Rattle.script_steps.specs.declared.steps.Step.{Step}
use Rattle.fleet_core.specs.declared.replies.Reply.{Reply}
use Rattle.fleet_core.specs.declared.replies.Reply.TheVariants.{NoNode, NoMessage}
use Rattle.fleet_core.specs.Machine.{Message, facts_after, messages_after}
use Rattle.fleet_core.specs.Replies.{NodeReplies}
use Rattle.fleet_core.specs.Refused.{IsRefusal}
use Rattle.fleet_core.specs.Runs.{TakesFrom}
use Rattle.fleet_core.specs.Calls.{NodeCalls}
use Rattle.fleet_core.specs.FleetState.{other_than}
use Rattle.fleet_core.specs.declared.making.Made.{Made}
use Rattle.fleet_core.specs.Messages.{AreMade, missing_message}

-- Where the segment, and that of the other node if there is another, mean facts of a sound log, the reply is that of a node with those
-- facts, and the segment means the node's next facts. The fleet has so many readers.
abbrev pub OwnFollows : ℕ → State → Option State → Step Fact → Reply → State → Type 0
OwnFollows readers old other step reply new =
    (roster : ℕ) (log facts others : List Fact) (messages : List Message)
    → readers ≡ roster → IsSound roster log → TakesFrom log step → Means roster log facts old → Means roster log others (unwrap_or other old)
    → NodeReplies roster facts others messages step reply × Means roster log (facts_after facts others messages step reply) new

-- Where moreover the kept messages are of some messages of the machine, those that are kept then are of the next ones.
abbrev pub NodeFollows : ℕ → State → Option State → List Made → Step Fact → Reply → State → List Made → Type 0
NodeFollows readers old other made step reply new later =
    (roster : ℕ) (log facts others : List Fact) (messages : List Message)
    → readers ≡ roster → IsSound roster log → TakesFrom log step → Means roster log facts old → Means roster log others (unwrap_or other old)
    → AreMade roster log messages made
    → NodeReplies roster facts others messages step reply × Means roster log (facts_after facts others messages step reply) new
    × AreMade roster log (messages_after messages facts step reply) later

-- a step is carried out at a segment, beside another one where there is one, with these messages of the fleet
pub record IsCarriedOut (readers : ℕ) (old : State) (other : Option State) (messages : List Made) (step : Step Fact) (reply : Reply)
    (new : State) (made : List Made) : Type 0 where
  pub follows : NodeFollows readers old other messages step reply new made
  pub calls : NodeCalls readers old other messages step reply new made
  pub found : (node : ℕ) → reply ≡ NoNode node → ⊥
  pub no_message : (number : ℕ) → (reply ≡ NoMessage number) ↔ (missing_message messages step ≡ Some number)
  pub refused : IsRefusal reply → (new ≡ old) × (made ≡ messages)

-- it is so at a place of a list of segments, counted from 0, beside the segment at another place
pub record CarriesOut (readers : ℕ) (old : List State) (place other : ℕ) (messages : List Made) (step : Step Fact) (reply : Reply)
    (new : List State) (made : List Made) : Type 0 where
  pub before : State
  pub there : slice_get old place ≡ Some before
  pub later : State
  pub does : IsCarriedOut readers before (other_than old place other) messages step reply later made
  pub others : new ≡ set old place later
