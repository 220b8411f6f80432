-- What an engine knows while it opens a volume, from answers that were given before.
use Rattle.std.specs.Prelude.{◌≡◌, ℕ, ◌<◌, ◌≤◌, Option, IsTrue}
use Rattle.std.specs.List.{Contains}
use Rattle.redo_core.specs.Data.{CutData}
use Rattle.volume_theorems.specs.Quorums.{size_below}
use Rattle.volume_theorems.specs.Nodes.{Content, Vote, VolumeNode, IsOfGeneration, VoteUpTo, GrowsTo}
use Rattle.volume_theorems.specs.Runs.{VolumeRun, MakesMove, IsOneBirth, Many}
use Rattle.volume_theorems.specs.Runs.Move.{IsFenced, Accepts}

-- the node is one of the engine's quorum
abbrev pub IsInQuorum : VolumeRun → ℕ → ℕ → Type 0
IsInQuorum run e i = IsTrue ((run.engines e).quorum i)

-- a quorum has answered `fenced` before the moment `gathered`
pub record HasGathered (run : VolumeRun) (e : ℕ) : Type 0 where
  pub many : run.quorum ≤ size_below run.roster (run.engines e).quorum
  pub before : (i : ℕ) → IsInQuorum run e i → (run.engines e).fenced i < (run.engines e).gathered
  pub fenced : (i : ℕ) → IsInQuorum run e i → MakesMove run ((run.engines e).fenced i) i (IsFenced e)

-- The node answered at the moment p what it has: it was asked after the engine had gathered its quorum, and answered as a member of the
-- engine's generation, in the birth that was fenced.
pub record HasShown (run : VolumeRun) (e i p : ℕ) : Type 0 where
  pub after : (run.engines e).gathered ≤ p
  pub under : IsOfGeneration (run.nodes p i) (run.engines e).generation
  pub birth : IsOneBirth run i ((run.engines e).fenced i) p

-- each node of the quorum has shown what it has, before the moment t
pub record HasAsked (run : VolumeRun) (e t : ℕ) : Type 0 where
  pub gathered : HasGathered run e
  pub shown : (i : ℕ) → IsInQuorum run e i → (p : ℕ) × (p < t) × HasShown run e i p

-- At the moment s the node may answer what the engine asks under its generation: the engine has asked its whole quorum by then, and the node
-- is a member of its generation. That the engine names only births that it has fenced or admitted is not needed.
pub record AnswersUnder (run : VolumeRun) (e s i : ℕ) : Type 0 where
  pub asked : HasAsked run e s
  pub under : IsOfGeneration (run.nodes s i) (run.engines e).generation

-- What the node has at the moment s counts for the engine: the engine has asked its whole quorum by then, and the node is a member of its
-- generation or of a lower one.
pub record CountsUnder (run : VolumeRun) (e s i : ℕ) : Type 0 where
  pub asked : HasAsked run e s
  pub member : IsTrue (run.nodes s i).is_member
  pub upto : (run.nodes s i).generation ≤ (run.engines e).generation

-- it counts so at some moment, and was such a node
abbrev pub WasUnder : VolumeRun → ℕ → (VolumeNode → Type 0) → ℕ → Type 0
WasUnder run e IsSuch i = (s : ℕ) × CountsUnder run e s i × IsSuch (run.nodes s i)

-- an engine has sent the truncation to be taken, before the moment t: a quorum has accepted it
abbrev pub IsCutSent : VolumeRun → ℕ → CutData → Type 0
IsCutSent run t c = (e : ℕ) × ((run.engines e).cuts c.epoch ≡ c) × Many run (λ i. (s : ℕ) × (s < t) × MakesMove run s i (Accepts e c.epoch))

-- the union: it has what each node of the quorum has shown before the moment t, and no truncation that no engine has sent
pub record IsUnion (run : VolumeRun) (e t : ℕ) (u : Content) : Type 0 where
  pub gathered : HasGathered run e
  pub of_all : (i : ℕ) → IsInQuorum run e i → (p : ℕ) × (p < t) × HasShown run e i p × GrowsTo (run.nodes p i).content u
  pub sent : (c : CutData) → Contains u.cuts c → IsCutSent run t c

-- a quorum has reported the union's epoch, and a complete point at or above lo, before the moment t
abbrev pub IsKnownToMany : VolumeRun → ℕ → ℕ → Content → ℕ → Type 0
IsKnownToMany run e t u lo =
    Many run (λ i. (s : ℕ) × (s < t) × AnswersUnder run e s i
    × ((run.nodes s i).content.epoch ≡ u.epoch) × Contains (run.nodes s i).content.points lo)

-- the greatest vote in the answers `fenced` of the quorum
pub record IsBest (run : VolumeRun) (e : ℕ) (best : Option Vote) : Type 0 where
  pub of_one : (i : ℕ) × IsInQuorum run e i × (best ≡ (run.nodes ((run.engines e).fenced i) i).accepted)
  pub above : (i : ℕ) → IsInQuorum run e i → VoteUpTo (run.nodes ((run.engines e).fenced i) i).accepted best
