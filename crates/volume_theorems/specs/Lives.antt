-- What holds of a node while it is in one birth.
use Rattle.std.specs.Prelude.{ℕ, ◌≤◌, IsTrue}
use Rattle.volume_theorems.specs.Nodes.{VolumeNode, VoteUpTo, GrowsTo}
use Rattle.volume_theorems.specs.Runs.{VolumeRun, IsOneBirth}
use Rattle.volume_theorems.specs.Protocol.{FollowsProtocol}

-- A member stays one, its generation does not fall, and it loses no facts. The accepted truncation rises by generation and then by epoch, so of one generation
-- by epoch.
pub record IsLaterNode (old new : VolumeNode) : Type 0 where
  pub member : IsTrue old.is_member → IsTrue new.is_member
  pub generation : IsTrue old.is_member → old.generation ≤ new.generation
  pub accepted : VoteUpTo old.accepted new.accepted
  pub content : IsTrue old.is_member → GrowsTo old.content new.content

abbrev pub OneBirth : Type 0
OneBirth =
    (run : VolumeRun) (i s t : ℕ) → FollowsProtocol run → s ≤ t → IsOneBirth run i s t → IsLaterNode (run.nodes s i) (run.nodes t i)

-- A birth that has ended does not come back.
abbrev pub NoReturn : Type 0
NoReturn =
    (run : VolumeRun) (i r s t : ℕ) → FollowsProtocol run → r ≤ s → s ≤ t → IsOneBirth run i r t → IsOneBirth run i r s
