-- The rules of the protocol: which move a node may make at each moment of a run, and what the move leaves of it.
use Rattle.std.specs.Prelude.{◌≡◌, ◌≢◌, ℕ, suc, ◌+◌, ◌<◌, ◌≤◌, ◌⊎◌, true, Option, Some, None, IsTrue}
use Rattle.std.specs.List.{Contains}
use Rattle.redo_core.specs.Data.{CutData}
use Rattle.volume_theorems.specs.Nodes.{Vote, VolumeNode, HasNothing, IsOfGeneration, GrowsTo, volume_node, with_content, with_generation, with_vote}
use Rattle.volume_theorems.specs.Runs.{VolumeRun, Move}
use Rattle.volume_theorems.specs.Runs.Move.{Rests, ComesFresh, Learns, IsReplaced, IsCreated, IsFenced, Accepts, IsAdmitted}
use Rattle.volume_theorems.specs.Opening.{IsCutSent}
use Rattle.volume_theorems.specs.Proposing.{MayPropose, MayAdmit}

-- the vote is of this generation and of a later epoch
abbrev pub IsLaterVote : Option Vote → ℕ → ℕ → Type 0
IsLaterVote None generation epoch = ⊥
IsLaterVote (Some vote) generation epoch = (vote.generation ≡ generation) × (epoch < vote.cut.epoch)

-- No earlier life of the node had the birth. It has nothing.
pub record IsReborn (run : VolumeRun) (t i : ℕ) (new : VolumeNode) : Type 0 where
  pub nothing : HasNothing new
  pub birth : (s : ℕ) → s ≤ t → (run.nodes s i).birth ≢ new.birth

-- Facts are lost, late or repeated as they like; but no truncation reaches a node that no engine has sent.
pub record IsMore (run : VolumeRun) (t : ℕ) (old new : VolumeNode) : Type 0 where
  pub same : new ≡ with_content old new.content
  pub grows : GrowsTo old.content new.content
  pub sent : (c : CutData) → Contains new.content.cuts c → Contains old.content.cuts c ⊎ IsCutSent run t c

-- no member loses its segment
pub record IsExchanged (run : VolumeRun) (t : ℕ) (old new : VolumeNode) : Type 0 where
  pub out : ¬ (IsTrue old.is_member)
  pub same : new ≡ with_content old new.content
  pub sent : (c : CutData) → Contains new.content.cuts c → IsCutSent run t c

-- The engine that creates the volume has heard twice from all nodes that they are no members, in the same birth. The run begins between
-- the two answers, so it names the births that the nodes begin with.
pub record IsFirstMember (run : VolumeRun) (i : ℕ) (old new : VolumeNode) : Type 0 where
  pub out : ¬ (IsTrue old.is_member)
  pub birth : old.birth ≡ (run.nodes 0 i).birth
  pub new_is : new ≡ volume_node old.birth true 1 None old.content

-- only a member is fenced, and only to a generation above its own
pub record IsRaised (run : VolumeRun) (e : ℕ) (old new : VolumeNode) : Type 0 where
  pub member : IsTrue old.is_member
  pub above : old.generation < (run.engines e).generation
  pub new_is : new ≡ with_generation old (run.engines e).generation

-- a member of the generation accepts a proposal, unless it has accepted one of the same generation and of a later epoch
pub record IsVoting (run : VolumeRun) (t e k : ℕ) (old new : VolumeNode) : Type 0 where
  pub under : IsOfGeneration old (run.engines e).generation
  pub proposed : MayPropose run e k t
  pub latest : ¬ (IsLaterVote old.accepted (run.engines e).generation k)
  pub new_is : new ≡ with_vote old (run.engines e).generation ((run.engines e).cuts k)

pub record IsEntering (run : VolumeRun) (t e i : ℕ) (old new : VolumeNode) : Type 0 where
  pub out : ¬ (IsTrue old.is_member)
  pub vote : Option Vote
  pub admits : MayAdmit run e i t vote
  pub new_is : new ≡ volume_node old.birth true (run.engines e).generation vote old.content

-- the move may be made by node i at the moment t, and leads from the old node to the new one
abbrev pub Moves : VolumeRun → ℕ → ℕ → Move → VolumeNode → VolumeNode → Type 0
Moves run t i Rests old new = new ≡ old
Moves run t i ComesFresh old new = IsReborn run t i new
Moves run t i Learns old new = IsMore run t old new
Moves run t i IsReplaced old new = IsExchanged run t old new
Moves run t i IsCreated old new = IsFirstMember run i old new
Moves run t i (IsFenced e) old new = IsRaised run e old new
Moves run t i (Accepts e k) old new = IsVoting run t e k old new
Moves run t i (IsAdmitted e) old new = IsEntering run t e i old new

-- Two quorums have a node in common. All nodes begin fresh. At each moment one node moves, and the others stay as they are.
pub record FollowsProtocol (run : VolumeRun) : Type 0 where
  pub overlap : run.roster < run.quorum + run.quorum
  pub begins : (i : ℕ) → HasNothing (run.nodes 0 i)
  pub moves : (t : ℕ) → Moves run t (run.actor t) (run.moves t) (run.nodes t (run.actor t)) (run.nodes (suc t) (run.actor t))
  pub others : (t i : ℕ) → i ≢ run.actor t → run.nodes (suc t) i ≡ run.nodes t i
