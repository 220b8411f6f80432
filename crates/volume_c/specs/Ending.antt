-- How a call ends.
use Rattle.std.specs.Prelude.{◌≡◌, ◌⊎◌, ℕ}
use Rattle.volume.specs.Settings.{IsSettings}

-- the input has ended, a descriptor failed, or there were more frames than are counted
abbrev pub IsServed : ℕ → Type 0
IsServed status = (status ≡ 0) ⊎ ((status ≡ 4) ⊎ (status ≡ 5))

-- no volume has so many nodes with this write quorum, or one has, and it was served
abbrev pub IsEnding : ℕ → ℕ → ℕ → Type 0
IsEnding nodes quorum status = ((status ≡ 2) × (IsSettings nodes quorum → ⊥)) ⊎ (IsServed status × IsSettings nodes quorum)
