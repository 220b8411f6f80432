-- What a fleet stores.
use Rattle.std.specs.Prelude.{◌≡◌, ℕ, ◌-◌, ◌==◌, if◌then◌else◌, List, [], replicate, set, slice_get, Option, Some, None}
use Rattle.segment_theorems.specs.State.{State, empty_state}
use Rattle.script_steps.specs.Nodes.{node_of, other_of}
use Rattle.script_steps.specs.declared.steps.Step.{Step}
use Rattle.fleet_core.specs.declared.making.Made.{Made}

-- the number of readers, the segments, node 1 first, and the messages that were made, message 1 first
pub record FleetState : Type 0 where
  pub roster : ℕ
  pub segments : List State
  pub messages : List Made

-- so many segments that nothing has reached
abbrev pub empty_fleet : ℕ → ℕ → FleetState
empty_fleet roster nodes = record { roster = roster; segments = replicate nodes (empty_state roster); messages = [] }

-- the fleet with another segment at a node, and with these messages
abbrev pub with_segment : FleetState → ℕ → State → List Made → FleetState
with_segment fleet node s messages = record { roster = fleet.roster; segments = set fleet.segments (node - 1) s; messages = messages }

-- the node's segment goes from a first state to another one, and the other nodes are as they were; what becomes of the messages is
-- said by what it does
pub record ChangesNode (node : ℕ) (Does : State → State → Type 0) (old new : FleetState) : Type 0 where
  pub before : State
  pub there : slice_get old.segments (node - 1) ≡ Some before
  pub later : State
  pub does : Does before later
  pub others : new ≡ with_segment old node later new.messages

-- the segment at another place than this one, counted from 0; none where the two places are one
abbrev pub other_than : List State → ℕ → ℕ → Option State
other_than segments place other = if place == other then None else slice_get segments other

-- the segment of the other node, where the step names another than its own
abbrev pub beside : {F : Type 0} → FleetState → Step F → Option State
beside fleet step = other_than fleet.segments (node_of step - 1) (other_of step - 1)
