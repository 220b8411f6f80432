-- How a call ends.
use Rattle.std.specs.Prelude.{◌≡◌, ◌⊎◌, ℕ}

-- the input has ended, a descriptor failed, or there was no memory
abbrev pub IsStatus : ℕ → Type 0
IsStatus status = (status ≡ 0) ⊎ ((status ≡ 4) ⊎ (status ≡ 5))
