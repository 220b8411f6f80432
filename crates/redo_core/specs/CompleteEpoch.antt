-- The complete epoch: the last one up to which every truncation is known.
use Rattle.std.specs.Prelude.{◌≡◌, ◌≢◌, ℕ, ◌≤◌, List}
use Rattle.std.specs.List.{Contains}
use Rattle.redo_core.specs.Data.{CutData}
use Rattle.redo_core.specs.Order.{IsGreatest}

-- there is a truncation of this epoch
abbrev pub HasCut : List CutData → ℕ → Type 0
HasCut cs epoch = (c : CutData) × Contains cs c × (c.epoch ≡ epoch)

-- there is a truncation of each epoch from 1 to k
abbrev pub HasCutsTo : List CutData → ℕ → Type 0
HasCutsTo cs k = (e : ℕ) → 1 ≤ e → e ≤ k → HasCut cs e

-- k is the complete epoch
abbrev pub IsCompleteEpoch : List CutData → ℕ → Type 0
IsCompleteEpoch cs k = IsGreatest (HasCutsTo cs) k

-- there is no truncation of this epoch
abbrev pub LacksCut : List CutData → ℕ → Type 0
LacksCut cs epoch = (d : CutData) → Contains cs d → d.epoch ≢ epoch
