-- Definitions for the scans of a book's lists.
use Rattle.std.specs.Prelude.{◌≡◌, ℕ, ◌<◌, ◌≤◌, List, Option, Some, None}
use Rattle.std.specs.List.{Contains}
use Rattle.redo_core.specs.Data.{CutData}

-- the least lo of the truncations of epochs above one and up to another, or none where there is no such truncation
abbrev pub IsLeastLo : List CutData → ℕ → ℕ → Option ℕ → Type 0
IsLeastLo cs above to None = (c : CutData) → Contains cs c → above < c.epoch → c.epoch ≤ to → ⊥
IsLeastLo cs above to (Some lo) =
    ((c : CutData) × Contains cs c × (above < c.epoch) × (c.epoch ≤ to) × (c.lo ≡ lo))
    × ((c : CutData) → Contains cs c → above < c.epoch → c.epoch ≤ to → lo ≤ c.lo)

-- the least lo of the truncations of a list above an epoch, or none where there is none above it
abbrev pub IsLeastAbove : List CutData → ℕ → Option ℕ → Type 0
IsLeastAbove cs above None = (c : CutData) → Contains cs c → above < c.epoch → ⊥
IsLeastAbove cs above (Some lo) =
    ((c : CutData) × Contains cs c × (above < c.epoch) × (c.lo ≡ lo)) × ((c : CutData) → Contains cs c → above < c.epoch → lo ≤ c.lo)
