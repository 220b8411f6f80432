-- The truncations that cut lowest, which decide whether an LSN is alive.
use Rattle.std.specs.Prelude.{◌≡◌, ℕ, ◌<◌, ◌≤◌, List}
use Rattle.std.specs.List.{Contains, All}
use Rattle.redo_core.specs.Data.{CutData}
use Rattle.redo_core.specs.Order.{IsRising}
use Rattle.redo_core.specs.Book.{BookData}

-- an earlier truncation, which cuts no higher than a later one
abbrev pub LowBefore : CutData → CutData → Type 0
LowBefore c d = (c.epoch < d.epoch) × (c.lo ≤ d.lo)

-- They are truncations up to epoch k; their lo does not fall; and each truncation up to k has one among them that is not earlier and
-- cuts no higher. So the least lo above an epoch is that of the first of them above it.
pub record AreLows (cs : List CutData) (k : ℕ) (lows : List CutData) : Type 0 where
  pub rising : IsRising LowBefore lows
  pub held : All (λ c. Contains cs c × (c.epoch ≤ k)) lows
  pub least : (c : CutData) → Contains cs c → c.epoch ≤ k → (d : CutData) × Contains lows d × (c.epoch ≤ d.epoch) × (d.lo ≤ c.lo)

-- the truncation of an epoch up to the complete one has its lo at or below an LSN
abbrev pub CutsAt : BookData → ℕ → ℕ → Type 0
CutsAt b number epoch = (c : CutData) × Contains b.cuts c × (c.epoch ≡ epoch) × (epoch ≤ b.complete) × (c.lo ≤ number)
