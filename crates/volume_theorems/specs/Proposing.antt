-- When an engine proposes a truncation, and when it admits a node.
use Rattle.std.specs.Prelude.{◌≡◌, ℕ, suc, ◌<◌, ◌≤◌, ◌⊎◌, Option, Some, None, IsTrue}
use Rattle.std.specs.List.{Contains}
use Rattle.redo_core.specs.Data.{CutData}
use Rattle.volume_theorems.specs.Nodes.{Content, Vote}
use Rattle.volume_theorems.specs.Runs.{VolumeRun, IsOneBirth}
use Rattle.volume_theorems.specs.Opening.{IsUnion, IsKnownToMany, IsBest}

-- the vote is for the truncation
abbrev pub IsVoteFor : Option Vote → CutData → Type 0
IsVoteFor None c = ⊥
IsVoteFor (Some vote) c = vote.cut ≡ c

-- the vote is for a truncation of the epoch
abbrev pub IsOfEpoch : Option Vote → ℕ → Type 0
IsOfEpoch None epoch = ⊥
IsOfEpoch (Some vote) epoch = vote.cut.epoch ≡ epoch

-- the engine proposes the truncation that is pending
pub record AdoptsPending (run : VolumeRun) (e k : ℕ) (best : Option Vote) : Type 0 where
  pub below : k < (run.engines e).opens
  pub pending : IsVoteFor best ((run.engines e).cuts k)

-- where none is pending it makes one, with the last commit point of the union
pub record MakesOwn (run : VolumeRun) (e k : ℕ) (u : Content) (best : Option Vote) : Type 0 where
  pub opens : k ≡ (run.engines e).opens
  pub free : ¬ (IsOfEpoch best k)
  pub lo : Contains u.points ((run.engines e).cuts k).lo
  pub last : (p : ℕ) → Contains u.points p → p ≤ ((run.engines e).cuts k).lo
  pub hi : ((run.engines e).cuts k).lo ≤ ((run.engines e).cuts k).hi

-- the engine proposes its truncation of epoch k before the moment t
pub record MayPropose (run : VolumeRun) (e k t : ℕ) : Type 0 where
  pub union : Content
  pub unites : IsUnion run e t union
  pub next : k ≡ suc union.epoch
  pub of_epoch : ((run.engines e).cuts k).epoch ≡ k
  pub known : IsKnownToMany run e t union ((run.engines e).cuts k).lo
  pub best : Option Vote
  pub greatest : IsBest run e best
  pub choice : AdoptsPending run e k best ⊎ MakesOwn run e k union best

-- The engine admits node i with the vote, at the moment t: before it had gathered its quorum the node answered that it was no member, in the
-- birth that it is in now; and the node has come as far as the union.
pub record MayAdmit (run : VolumeRun) (e i t : ℕ) (vote : Option Vote) : Type 0 where
  pub union : Content
  pub unites : IsUnion run e t union
  pub heard : (s : ℕ) × (s < (run.engines e).gathered) × ¬ (IsTrue (run.nodes s i).is_member) × IsOneBirth run i s t
  pub epoch : (run.nodes t i).content.epoch ≡ union.epoch
  pub points : (p : ℕ) → Contains union.points p → Contains (run.nodes t i).content.points p
  pub greatest : IsBest run e vote
