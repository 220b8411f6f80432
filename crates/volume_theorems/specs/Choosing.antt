-- One truncation is chosen for each epoch, and one engine opens it.
use Rattle.std.specs.Prelude.{◌≡◌, ℕ}
use Rattle.std.specs.List.{Contains}
use Rattle.redo_core.specs.Data.{CutData}
use Rattle.volume_theorems.specs.Runs.{VolumeRun, MakesMove, Many}
use Rattle.volume_theorems.specs.Runs.Move.{Accepts}
use Rattle.volume_theorems.specs.Protocol.{FollowsProtocol}

-- a quorum has accepted the truncation, under one generation
abbrev pub IsChosen : VolumeRun → ℕ → CutData → Type 0
IsChosen run generation c =
    Many run (λ i. (s e : ℕ) × MakesMove run s i (Accepts e c.epoch)
    × ((run.engines e).generation ≡ generation) × ((run.engines e).cuts c.epoch ≡ c))

-- Two chosen truncations of one epoch are equal.
abbrev pub OneTruncation : Type 0
OneTruncation =
    (run : VolumeRun) (g h : ℕ) (c d : CutData) → FollowsProtocol run → IsChosen run g c → IsChosen run h d → c.epoch ≡ d.epoch
    → c ≡ d

-- Only chosen ones are taken by any node.
abbrev pub OnlyChosen : Type 0
OnlyChosen =
    (run : VolumeRun) (t i : ℕ) (c : CutData) → FollowsProtocol run → Contains (run.nodes t i).content.cuts c
    → (g : ℕ) × IsChosen run g c

-- a quorum has accepted the truncation that the engine made itself
pub record HasOpened (run : VolumeRun) (e epoch : ℕ) : Type 0 where
  pub own : (run.engines e).opens ≡ epoch
  pub accepted : Many run (λ i. (s : ℕ) × MakesMove run s i (Accepts e epoch))

-- At most one engine opens an epoch, so at most one writes in it.
abbrev pub OneWriter : Type 0
OneWriter = (run : VolumeRun) (e f epoch : ℕ) → FollowsProtocol run → HasOpened run e epoch → HasOpened run f epoch → e ≡ f
