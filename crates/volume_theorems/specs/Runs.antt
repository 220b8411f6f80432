-- Runs of a volume: what its engines decide, and what its nodes do, one move a moment.
use Rattle.std.specs.Prelude.{◌≡◌, ℕ, Bool}
use Rattle.redo_core.specs.Data.{CutData}
use Rattle.volume_theorems.specs.Quorums.{OfQuorum}
use Rattle.volume_theorems.specs.Nodes.{VolumeNode}

-- An engine that opens the volume, once: where it opens again, it counts as another one. Its quorum is the set of the nodes whose answers
-- `fenced` it waits for; at the moment `gathered` it has them, and has asked nobody yet what it has.
pub record Engine : Type 0 where
  pub generation : ℕ
  pub quorum : ℕ → Bool
  -- when each node of the quorum was fenced, in the answer that counts
  pub fenced : ℕ → ℕ
  pub gathered : ℕ
  -- the truncation that it proposes for each epoch for which it proposes one
  pub cuts : ℕ → CutData
  -- the epoch of the truncation that it makes itself; those that it proposes before are pending ones
  pub opens : ℕ

-- A move of one node. With the number of an engine it executes a request of that engine. An answer is no move: whoever hears one knows what
-- the node was at an earlier moment.
pub data Move : Type 0 where
  Rests : Move
  -- comes back with nothing, in another birth
  ComesFresh : Move
  -- facts reach its segment
  Learns : Move
  -- gets another segment
  IsReplaced : Move
  -- is admitted by the engine that creates the volume
  IsCreated : Move
  -- executes `fence`
  IsFenced : ℕ → Move
  -- accepts the engine's truncation of the epoch
  Accepts : ℕ → ℕ → Move
  -- executes `admit`
  IsAdmitted : ℕ → Move

-- At each moment the node `actor` makes the move, which leads to the next moment. The nodes are numbered from 0 below the roster.
pub record VolumeRun : Type 0 where
  pub roster : ℕ
  pub quorum : ℕ
  pub engines : ℕ → Engine
  pub actor : ℕ → ℕ
  pub moves : ℕ → Move
  pub nodes : ℕ → ℕ → VolumeNode

-- at the moment t node i makes this move
abbrev pub MakesMove : VolumeRun → ℕ → ℕ → Move → Type 0
MakesMove run t i move = (run.actor t ≡ i) × (run.moves t ≡ move)

-- at the two moments the node is in the same birth
abbrev pub IsOneBirth : VolumeRun → ℕ → ℕ → ℕ → Type 0
IsOneBirth run i s t = (run.nodes s i).birth ≡ (run.nodes t i).birth

-- at least a quorum of the nodes have it
abbrev pub Many : VolumeRun → (ℕ → Type 0) → Type 0
Many run Has = OfQuorum run.roster run.quorum Has
