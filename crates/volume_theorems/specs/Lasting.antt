-- What was durable stays so.
use Rattle.std.specs.Prelude.{◌≡◌, ℕ, suc, ◌<◌, ◌≤◌, ◌⊎◌}
use Rattle.std.specs.List.{Contains}
use Rattle.redo_core.specs.Data.{CutData}
use Rattle.volume_theorems.specs.Nodes.{Content}
use Rattle.volume_theorems.specs.Runs.{VolumeRun, Many}
use Rattle.volume_theorems.specs.Opening.{WasUnder, IsUnion}
use Rattle.volume_theorems.specs.Protocol.{FollowsProtocol}
use Rattle.volume_theorems.specs.Choosing.{IsChosen, HasOpened}

-- A quorum has reported the commit point in the epoch, as members of the engine's generation or of lower ones. So the engine counts what it
-- hears, and so does a reader what it sees: the last record of page 0 shows which engine has written in the epoch.
abbrev pub IsReported : VolumeRun → ℕ → ℕ → ℕ → Type 0
IsReported run e epoch point = Many run (WasUnder run e (λ n. (n.content.epoch ≡ epoch) × Contains n.content.points point))

-- The engine has opened the epoch at the commit point, or a quorum has reported the commit point in that epoch.
abbrev pub IsDurable : VolumeRun → ℕ → ℕ → ℕ → Type 0
IsDurable run e epoch point =
    HasOpened run e epoch × ((point ≡ ((run.engines e).cuts epoch).lo) ⊎ IsReported run e epoch point)

-- No truncation that is chosen for a later epoch annuls what was durable.
abbrev pub DurableLasts : Type 0
DurableLasts =
    (run : VolumeRun) (e epoch point g : ℕ) (c : CutData) → FollowsProtocol run → IsDurable run e epoch point → IsChosen run g c
    → epoch < c.epoch → point ≤ c.lo

-- No later epoch is opened below it.
abbrev pub OpensAbove : Type 0
OpensAbove =
    (run : VolumeRun) (e f epoch later point : ℕ) → FollowsProtocol run → IsDurable run e epoch point → HasOpened run f later
    → epoch < later → point ≤ ((run.engines f).cuts later).lo

-- lo of chosen truncations does not fall as epochs rise.
abbrev pub LoRises : Type 0
LoRises =
    (run : VolumeRun) (g h : ℕ) (c d : CutData) → FollowsProtocol run → IsChosen run g c → IsChosen run h d → c.epoch ≤ d.epoch
    → c.lo ≤ d.lo

-- lo of a chosen truncation is a commit point of a union of the epoch before.
abbrev pub LoIsPoint : Type 0
LoIsPoint =
    (run : VolumeRun) (g : ℕ) (c : CutData) → FollowsProtocol run → IsChosen run g c
    → (e t : ℕ) × (u : Content) × IsUnion run e t u × (c.epoch ≡ suc u.epoch) × Contains u.points c.lo
