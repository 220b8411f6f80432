-- What was done by a moment of a run that follows the rules until then.
use Rattle.std.specs.Prelude.{◌≡◌, ℕ, suc, ◌<◌, ◌≤◌, ◌⊎◌}
use Rattle.std.specs.List.{Contains}
use Rattle.redo_core.specs.Data.{CutData}
use Rattle.redo_core.specs.CompleteEpoch.{HasCutsTo}
use Rattle.volume_theorems.specs.Runs.{VolumeRun, MakesMove, Many}
use Rattle.volume_theorems.specs.Runs.Move.{Accepts}
use Rattle.volume_theorems.specs.Opening.{CountsUnder, IsCutSent}
use Rattle.volume_theorems.specs.Stopping.{FollowsUntil}

-- a quorum has accepted the truncation that the engine made itself, before the moment
pub record HasOpenedBy (run : VolumeRun) (t e epoch : ℕ) : Type 0 where
  pub own : (run.engines e).opens ≡ epoch
  pub accepted : Many run (λ i. (s : ℕ) × (s < t) × MakesMove run s i (Accepts e epoch))

-- a quorum has reported the commit point in the epoch by the moment, as members of the engine's generation or of lower ones
abbrev pub IsReportedBy : VolumeRun → ℕ → ℕ → ℕ → ℕ → Type 0
IsReportedBy run t e epoch point =
    Many run (λ i. (s : ℕ) × (s ≤ t) × CountsUnder run e s i
    × ((run.nodes s i).content.epoch ≡ epoch) × Contains (run.nodes s i).content.points point)

-- by the moment the engine has opened the epoch at the commit point, or a quorum has reported the commit point in that epoch
abbrev pub IsDurableBy : VolumeRun → ℕ → ℕ → ℕ → ℕ → Type 0
IsDurableBy run t e epoch point =
    HasOpenedBy run t e epoch × ((point ≡ ((run.engines e).cuts epoch).lo) ⊎ IsReportedBy run t e epoch point)

-- ---- theorems
-- Two truncations of one epoch that were sent are equal.
abbrev pub OneSentBy : Type 0
OneSentBy =
    (run : VolumeRun) (t : ℕ) (c d : CutData) → FollowsUntil run t → IsCutSent run t c → IsCutSent run t d → c.epoch ≡ d.epoch → c ≡ d

-- lo of those that were sent does not fall as epochs rise.
abbrev pub LoRisesBy : Type 0
LoRisesBy =
    (run : VolumeRun) (t : ℕ) (c d : CutData) → FollowsUntil run t → IsCutSent run t c → IsCutSent run t d → c.epoch ≤ d.epoch
    → c.lo ≤ d.lo

-- lo of one that was sent was a commit point of a node of the epoch before.
abbrev pub LoIsHeld : Type 0
LoIsHeld =
    (run : VolumeRun) (t : ℕ) (c : CutData) → FollowsUntil run t → IsCutSent run t c
    → (s i : ℕ) × (s < t) × (c.epoch ≡ suc (run.nodes s i).content.epoch) × Contains (run.nodes s i).content.points c.lo

-- At most one engine has opened an epoch.
abbrev pub OneWriterBy : Type 0
OneWriterBy =
    (run : VolumeRun) (t e f epoch : ℕ) → FollowsUntil run t → HasOpenedBy run t e epoch → HasOpenedBy run t f epoch → e ≡ f

-- No truncation of a later epoch that was sent annuls what is durable.
abbrev pub DurableLastsBy : Type 0
DurableLastsBy =
    (run : VolumeRun) (t e epoch point : ℕ) (c : CutData) → FollowsUntil run t → IsDurableBy run t e epoch point → IsCutSent run t c
    → epoch < c.epoch → point ≤ c.lo

-- No epoch is left out, where each node that has come to an epoch has the truncations up to it.
abbrev pub EpochsInOrder : Type 0
EpochsInOrder =
    (run : VolumeRun) (t : ℕ) (c : CutData) (k : ℕ) → FollowsUntil run t
    → ((s i : ℕ) → s < t → HasCutsTo (run.nodes s i).content.cuts (run.nodes s i).content.epoch)
    → IsCutSent run t c → 1 ≤ k → k ≤ c.epoch → (d : CutData) × IsCutSent run t d × (d.epoch ≡ k)

-- a quorum accepts the engine's truncation of the epoch from the moment u on, before the moment t
abbrev pub AcceptFrom : VolumeRun → ℕ → ℕ → ℕ → ℕ → Type 0
AcceptFrom run e epoch u t = Many run (λ i. (s : ℕ) × (u ≤ s) × (s < t) × MakesMove run s i (Accepts e epoch))

-- Where a quorum accepts an engine's own truncation from a moment on, none but that one was sent before for its epoch or a later one.
abbrev pub NoneOvertakes : Type 0
NoneOvertakes =
    (run : VolumeRun) (e epoch u t : ℕ) (c : CutData) → FollowsUntil run t → u ≤ t → (run.engines e).opens ≡ epoch
    → AcceptFrom run e epoch u t → IsCutSent run u c → epoch ≤ c.epoch → c ≡ (run.engines e).cuts epoch
