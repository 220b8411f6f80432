-- The readers' points: how far the effective advances have moved each reader.
use Rattle.std.specs.Prelude.{◌≡◌, ℕ, ◌≤◌, ◌⊎◌, List, length}
use Rattle.std.specs.List.{Contains}
use Rattle.redo_core.specs.Data.{AdvanceData}
use Rattle.redo_core.specs.Order.{IsGreatest}
use Rattle.redo_core.specs.Roster.{IsReader, point_of}

-- an advance of the reader, of an epoch up to k, has this point; advances of later epochs wait
abbrev pub HasAdvance : List AdvanceData → ℕ → ℕ → ℕ → Type 0
HasAdvance given k reader point = (a : AdvanceData) × Contains given a × (a.epoch ≤ k) × (a.reader ≡ reader) × (a.point ≡ point)

-- the reader's point is the greatest effective one
abbrev pub IsPoint : List AdvanceData → ℕ → ℕ → ℕ → Type 0
IsPoint given k reader point = IsGreatest (HasAdvance given k reader) point

-- each reader's point, by reader
pub record ArePoints (roster : ℕ) (given : List AdvanceData) (k : ℕ) (points : List ℕ) : Type 0 where
  pub count : length points ≡ roster
  pub each : (reader : ℕ) → IsReader roster reader → IsPoint given k reader (point_of points reader)

-- each reader's new point is the greatest of its old one and those of the given advances of epochs up to k
pub record RaisesPoints (k : ℕ) (old : List ℕ) (given : List AdvanceData) (new : List ℕ) : Type 0 where
  pub count : length new ≡ length old
  pub each : (reader : ℕ) → IsReader (length old) reader → IsGreatest (λ n. (n ≡ point_of old reader) ⊎ HasAdvance given k reader n) (point_of new reader)
