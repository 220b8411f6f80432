-- What an engine that has asked its quorum may rely on.
use Rattle.std.specs.Prelude.{◌≡◌, ℕ, ◌≤◌, IsTrue}
use Rattle.volume_theorems.specs.Nodes.{VolumeNode, IsOfGeneration}
use Rattle.volume_theorems.specs.Runs.{VolumeRun, IsOneBirth}
use Rattle.volume_theorems.specs.Opening.{IsInQuorum, HasAsked}
use Rattle.volume_theorems.specs.Protocol.{FollowsProtocol}

-- the node is no member, or of this generation or a higher one
abbrev pub IsNotBelow : VolumeNode → ℕ → Type 0
IsNotBelow n generation = IsTrue n.is_member → generation ≤ n.generation

-- When the engine had gathered its quorum, each node of it was a member of the engine's generation, in the birth that was fenced; and from
-- then on it is no member, or of that generation or a higher one.
pub record StandsFrom (run : VolumeRun) (e i : ℕ) : Type 0 where
  pub under : IsOfGeneration (run.nodes (run.engines e).gathered i) (run.engines e).generation
  pub birth : IsOneBirth run i ((run.engines e).fenced i) (run.engines e).gathered
  pub since : (t : ℕ) → (run.engines e).gathered ≤ t → IsNotBelow (run.nodes t i) (run.engines e).generation

abbrev pub QuorumsStand : Type 0
QuorumsStand = (run : VolumeRun) (e t i : ℕ) → FollowsProtocol run → HasAsked run e t → IsInQuorum run e i → StandsFrom run e i

-- Of engines with one generation at most one has asked its whole quorum.
abbrev pub OneOfGeneration : Type 0
OneOfGeneration =
    (run : VolumeRun) (e f s t : ℕ) → FollowsProtocol run → HasAsked run e s → HasAsked run f t
    → (run.engines e).generation ≡ (run.engines f).generation → e ≡ f
