-- The frames of actions.
use Rattle.std.specs.Prelude.{ℕ, List, [], ◌∷◌, codes, map}
use Rattle.std.specs.List.{concat}
use Rattle.framing.specs.Frames.{framed}
use Rattle.volume.specs.declared.actions.Action.{Action}
use Rattle.volume.specs.declared.actions.Action.TheVariants as action
use Rattle.volume.specs.declared.actions.Fault.{Fault}
use Rattle.volume.specs.declared.actions.Fault.TheVariants as fault
use Rattle.volume_stream.specs.Words.{followed}
use Rattle.node_stream.specs.Telling.{numbered}
use Rattle.volume_stream.specs.RequestFrames.{request_frame}

abbrev pub fault_frame : Fault → List ℕ
fault_frame (fault.Fenced generation) = numbered (codes "fenced") (generation ∷ [])
fault_frame (fault.NoQuorum have need) = numbered (codes "no quorum") (have ∷ need ∷ [])
fault_frame fault.NotOpen = codes "not open"
fault_frame (fault.Ahead durable) = numbered (codes "ahead") (durable ∷ [])
fault_frame fault.Full = codes "full"
fault_frame fault.NotFresh = codes "not fresh"
fault_frame fault.Reserved = codes "reserved"
fault_frame fault.LongHeader = codes "long header"
fault_frame fault.Damaged = codes "damaged"
fault_frame (fault.Shape f) = codes "shape"

abbrev pub action_frame : Action → List ℕ
action_frame (action.Ask node asked) = followed (codes "ask") (node ∷ []) (request_frame asked)
action_frame action.Created = codes "created"
action_frame (action.Opened epoch commit_point header) = followed (codes "opened") (epoch ∷ commit_point ∷ []) header.items
action_frame (action.Committed commit_point) = numbered (codes "committed") (commit_point ∷ [])
action_frame (action.Durable commit_point) = numbered (codes "durable") (commit_point ∷ [])
action_frame (action.Refused f) = fault_frame f

-- a frame for each
abbrev pub actions_frame : List Action → List ℕ
actions_frame actions = concat (map framed (map action_frame actions))
