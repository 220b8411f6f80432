-- The guard of a node follows the rules of the volume protocol.
use Rattle.std.specs.Prelude.{◌≡◌, ℕ, ◌⊎◌, Option, Some, None}
use Rattle.std.specs.List.{Contains}
use Rattle.redo_core.specs.Data.{CutData}
use Rattle.segment_core.specs.declared.answers.Front.{Front}
use Rattle.replica.specs.AtSegment.{Fronts}
use Rattle.replica.specs.Parts.{ReplicaData}
use Rattle.replica.specs.declared.replies.Reply.TheVariants as replica_reply
use Rattle.guard.specs.declared.requests.AcceptedCut.{AcceptedCut}
use Rattle.guard.specs.declared.requests.Admission.{Admission}
use Rattle.guard.specs.declared.requests.Request.{Request}
use Rattle.guard.specs.declared.requests.Request.TheVariants as request
use Rattle.guard.specs.declared.replies.Reply.{Reply}
use Rattle.guard.specs.Asked.{ReplacesSegment}
use Rattle.guard.specs.Data.{GuardData}
use Rattle.guard.specs.Guarding.{IsGuardReply, IsFarEnough}
use Rattle.volume_theorems.specs.Nodes.{Content, Vote, VolumeNode, GrowsTo, volume_node}
use Rattle.volume_theorems.specs.Runs.{VolumeRun, Move}
use Rattle.volume_theorems.specs.Opening.{IsCutSent}
use Rattle.volume_theorems.specs.Proposing.{MayPropose, MayAdmit}
use Rattle.volume_theorems.specs.Protocol.{Moves}

abbrev pub vote_of : Option AcceptedCut → Option Vote
vote_of None = None
vote_of (Some pair) = Some (record { generation = pair.generation; cut = pair.cut })

-- a guard as a node of a volume, where `content` is what its replica has
abbrev pub as_node : (ReplicaData → Content) → GuardData → VolumeNode
as_node content g = volume_node g.birth g.is_member g.generation (vote_of g.accepted) (content g.replica)

-- ---- what the rules ask of engines
-- the admission of the engine that creates the volume
pub record IsFirstAdmission (run : VolumeRun) (i : ℕ) (asked : Admission) : Type 0 where
  pub generation : asked.generation ≡ 1
  pub birth : asked.birth ≡ (run.nodes 0 i).birth
  pub accepted : asked.accepted ≡ None

-- an engine sends the admission, so that it may admit the node if this is as the admission asks
pub record IsLaterAdmission (run : VolumeRun) (t i : ℕ) (old : GuardData) (asked : Admission) : Type 0 where
  pub engine : ℕ
  pub generation : (run.engines engine).generation ≡ asked.generation
  pub may : (front : Front) → asked.birth ≡ old.birth → Fronts old.replica.cached.segment (replica_reply.Front front) → IsFarEnough front asked
      → MayAdmit run engine i t (vote_of asked.accepted)

-- an engine of the generation proposes the truncation
pub record IsProposal (run : VolumeRun) (t generation : ℕ) (cut : CutData) : Type 0 where
  pub engine : ℕ
  pub generation_is : (run.engines engine).generation ≡ generation
  pub cut_is : (run.engines engine).cuts cut.epoch ≡ cut
  pub may : MayPropose run engine cut.epoch t

-- the request is one that some engine may have sent by the moment t, or that no rule asks anything of
abbrev pub IsAllowed : VolumeRun → ℕ → ℕ → GuardData → Request → Type 0
IsAllowed run t i old (request.Fence generation) = (e : ℕ) × ((run.engines e).generation ≡ generation)
IsAllowed run t i old (request.Propose generation birth cut) = IsProposal run t generation cut
IsAllowed run t i old (request.Admit asked) = IsFirstAdmission run i asked ⊎ IsLaterAdmission run t i old asked
IsAllowed run t i old asked = Unit {0}

-- ---- what the rules ask of segments
-- the request gives a node that is no member another segment
abbrev pub Exchanges : Request → Type 0
Exchanges (request.Plain asked) = ReplacesSegment asked
Exchanges asked = ⊥

-- no truncation comes that was not sent; and the facts only grow, unless the segment is exchanged
pub record KeepsFacts (run : VolumeRun) (t : ℕ) (asked : Request) (old new : Content) : Type 0 where
  pub sent : (c : CutData) → Contains new.cuts c → IsCutSent run t c
  pub grows : ¬ (Exchanges asked) → GrowsTo old new

-- A guard that answers a request as it should makes a move that the rules allow, where engines and segments keep to them.
abbrev pub GuardMoves : Type 0
GuardMoves =
    (run : VolumeRun) (content : ReplicaData → Content) (t i : ℕ) (old : GuardData) (asked : Request) (told : Reply) (new : GuardData)
    → IsGuardReply old asked told new → IsAllowed run t i old asked → KeepsFacts run t asked (content old.replica) (content new.replica)
    → (move : Move) × Moves run t i move (as_node content old) (as_node content new)
