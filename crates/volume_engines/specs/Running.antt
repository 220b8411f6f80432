-- A run of guards and machines keeps the rules of the protocol.
use Rattle.std.specs.Prelude.{◌≡◌, ◌≢◌, ℕ, suc, ◌+◌, ◌^◌, ◌<◌, ◌≤◌, ◌⊎◌, List, ◌++◌, None}
use Rattle.std.specs.List.{Contains}
use Rattle.redo_core.specs.Data.{CutData}
use Rattle.redo_core.specs.Shape.{epoch_count, cut_fault}
use Rattle.redo_core.specs.declared.facts.Fact.{Fact}
use Rattle.segment_theorems.specs.State.{State, empty_state}
use Rattle.segment_theorems.specs.Means.{Means}
use Rattle.replica.specs.Meaning.{Brings}
use Rattle.replica.specs.Parts.{ReplicaData}
use Rattle.replica.specs.declared.requests.Request.{Request as SegmentRequest}
use Rattle.guard.specs.declared.requests.Request.{Request}
use Rattle.guard.specs.declared.requests.Request.TheVariants as request
use Rattle.guard.specs.declared.replies.Reply.{Reply}
use Rattle.guard.specs.Data.{GuardData}
use Rattle.volume.specs.declared.actions.Action.TheVariants.{Ask}
use Rattle.volume_theorems.specs.Nodes.{Content, HasNothing}
use Rattle.volume_theorems.specs.Runs.{VolumeRun, Move}
use Rattle.volume_theorems.specs.Runs.Move.{Rests, ComesFresh, IsCreated}
use Rattle.volume_theorems.specs.Opening.{IsCutSent}
use Rattle.volume_theorems.specs.Protocol.{Moves}
use Rattle.volume_theorems.specs.Stopping.{FollowsUntil}
use Rattle.volume_guards.specs.Guards.{as_node}
use Rattle.volume_logs.specs.Histories.{History, log_at}
use Rattle.volume_logs.specs.Emitting.{IsEmitted}
use Rattle.volume_logs.specs.Joining.{IsBlank}
use Rattle.volume_engines.specs.Lives.{Life, Guards, IsLife}
use Rattle.volume_engines.specs.World.{HasGuards}
use Rattle.volume_engines.specs.Engines.{IsEngineOf}
use Rattle.volume_engines.specs.Emissions.{HasEmissions}
use Rattle.volume_engines.specs.Resuming.{OpensAt}
use Rattle.volume_engines.specs.Following.{move_shown, Executes, IsNextMoment, IsRecorded}

-- ---- what happens at a moment
-- A life of engine e has asked the node before the moment t. While the rules are kept, the history has what the life has emitted by then.
pub record HasAskedNode (run : VolumeRun) (h : History) (guards : Guards) (t e node : ℕ) (asked : Request) : Type 0 where
  pub life : Life
  pub count : ℕ
  pub lives : IsLife run guards e life count
  pub readers : (life.states 0).settings.roster ≡ h.readers
  pub names : IsEngineOf life count (run.engines e)
  pub step : ℕ
  pub within : step < count
  pub asks : Contains (life.actions step) (Ask node asked)
  pub sent : life.moments step < t
  pub written : FollowsUntil run t → IsRecorded h life count t

-- a guard executes what a life has asked, and makes the move that its reply shows
pub record ServesLife (run : VolumeRun) (h : History) (guards : Guards) (t : ℕ) : Type 0 where
  pub engine : ℕ
  pub node : ℕ
  pub asked : Request
  pub told : Reply
  pub asks : HasAskedNode run h guards t engine node asked
  pub executes : Executes run guards t node asked told
  pub move : run.moves t ≡ move_shown engine asked told

-- A guard executes a plain request, as other nodes send it, or as the node itself folds and discards. What it brings is of the log.
pub record ServesPeer (run : VolumeRun) (h : History) (guards : Guards) (t : ℕ) : Type 0 where
  pub node : ℕ
  pub asked : SegmentRequest
  pub told : Reply
  pub executes : Executes run guards t node (request.Plain asked) told
  pub brought : List Fact
  pub brings : Brings h.readers (log_at h t) (guards t node).replica asked brought
  pub move : run.moves t ≡ move_shown 0 (request.Plain asked) told

-- a move that no request of an opening or of a peer makes
abbrev pub IsAlone : Move → Type 0
IsAlone Rests = Unit {0}
IsAlone ComesFresh = Unit {0}
IsAlone IsCreated = Unit {0}
IsAlone move = ⊥

-- nothing has reached the guard's segment
abbrev pub IsEmpty : History → GuardData → Type 0
IsEmpty h g = g.replica.cached.segment ≡ empty_state h.readers

-- one segment means whatever facts of the log before the moment t another one means, and may store them in another way
abbrev pub MeansNoLess : History → ℕ → State → State → Type 0
MeansNoLess h t old new = (part : List Fact) → Means h.readers (log_at h t) part old → Means h.readers (log_at h t) part new

-- A node moves by itself, as the rules allow: it rests or returns, comes back with nothing, or is created. Its segment is empty, or means no less.
pub record MovesAlone (run : VolumeRun) (h : History) (guards : Guards) (t : ℕ) : Type 0 where
  pub alone : IsAlone (run.moves t)
  pub moves : Moves run t (run.actor t) (run.moves t) (run.nodes t (run.actor t)) (run.nodes (suc t) (run.actor t))
  pub segment : IsEmpty h (guards (suc t) (run.actor t))
      ⊎ MeansNoLess h t (guards t (run.actor t)).replica.cached.segment (guards (suc t) (run.actor t)).replica.cached.segment
  pub others : (i : ℕ) → i ≢ run.actor t → guards (suc t) i ≡ guards t i

-- ---- the history
-- A life of an engine opens epoch k + 1 before the moment t, and the history has of that epoch what it has emitted by then. Generation and epoch
-- fit into the bytes that page 0 has for them, as numbers of their types.
pub record HasOpener (run : VolumeRun) (h : History) (guards : Guards) (t k : ℕ) : Type 0 where
  pub engine : ℕ
  pub life : Life
  pub count : ℕ
  pub lives : IsLife run guards engine life count
  pub readers : (life.states 0).settings.roster ≡ h.readers
  pub names : IsEngineOf life count (run.engines engine)
  pub generation_fits : life.generation < 2 ^ 64
  pub epoch_fits : suc k < epoch_count
  pub step : ℕ
  pub within : step < count
  pub early : life.moments step < t
  pub opens : OpensAt life step k
  pub has : HasEmissions h life count t (suc k)

-- The history is that of the run, up to the moment `stop`: while the rules are kept, it has the truncations that were sent, which have the
-- shape of their type, up to the newest one, and of each epoch what a life has emitted.
pub record IsHistoryOf (run : VolumeRun) (h : History) (stop : ℕ) (guards : Guards) : Type 0 where
  pub blank : IsBlank h
  pub shaped : (t k : ℕ) → t ≤ stop → 1 ≤ k → k ≤ h.newest t → cut_fault (h.cuts k) ≡ None
  pub sent : (t : ℕ) (c : CutData) → t ≤ stop → FollowsUntil run t → IsCutSent run t c → (c.epoch ≤ h.newest t) × (h.cuts c.epoch ≡ c)
  pub newest : (t : ℕ) → t ≤ stop → FollowsUntil run t → 1 ≤ h.newest t → (c : CutData) × IsCutSent run t c × (c.epoch ≡ h.newest t)
  pub grows : (s t k : ℕ) → s ≤ t → t ≤ stop → (more : List Fact) × (h.written t k ≡ h.written s k ++ more)
  pub written : (t k : ℕ) (f : Fact) → t ≤ stop → FollowsUntil run t → Contains (h.written t (suc k)) f → HasOpener run h guards t k

-- ---- runs
-- a node begins as a guard whose segment is empty
pub record BeginsEmpty (run : VolumeRun) (h : History) (content : ReplicaData → Content) (g : GuardData) (i : ℕ) : Type 0 where
  pub nothing : HasNothing (run.nodes 0 i)
  pub node : run.nodes 0 i ≡ as_node content g
  pub segment : IsEmpty h g

-- Up to the moment `stop` the nodes are guards, which serve lives and each other or move by themselves, and the history is that of the run.
pub record IsRunOfMachines (run : VolumeRun) (h : History) (stop : ℕ) (content : ReplicaData → Content) (guards : Guards) : Type 0 where
  pub overlap : run.roster < run.quorum + run.quorum
  pub begins : (i : ℕ) → BeginsEmpty run h content (guards 0 i) i
  pub next : (t : ℕ) → t < stop → IsNextMoment run h content guards t
  pub history : IsHistoryOf run h stop guards
  pub turns : (t : ℕ) → t < stop → ServesLife run h guards t ⊎ ServesPeer run h guards t ⊎ MovesAlone run h guards t

-- Such a run keeps the rules of the protocol, what its engines emit keeps those of the log, and what its segments mean is of the log.
abbrev pub MachinesKeepRules : Type 0
MachinesKeepRules =
    (run : VolumeRun) (h : History) (stop : ℕ) (content : ReplicaData → Content) (guards : Guards)
    → IsRunOfMachines run h stop content guards → FollowsUntil run stop × IsEmitted run h stop × HasGuards run h stop content guards
