-- The readers' points before each epoch.
use Rattle.std.specs.Prelude.{◌≡◌, ℕ, ◌+◌, ◌<◌, ◌≤◌, ◌↔◌, List, length, slice_index}
use Rattle.std.specs.List.{Contains}
use Rattle.redo_core.specs.Data.{AdvanceData}
use Rattle.redo_core.specs.Roster.{IsReader}
use Rattle.redo_core.specs.declared.facts.Fact.{Fact}
use Rattle.redo_core.specs.declared.facts.Fact.TheVariants.{Advance}

-- an advance of the reader, of an epoch before e, has a point above n
abbrev pub HasAbove : List Fact → ℕ → ℕ → ℕ → Type 0
HasAbove facts reader e n = (a : AdvanceData) × Contains facts (Advance a) × (a.reader ≡ reader) × (a.epoch < e) × (n < a.point)

-- the values are the reader's points at the first `count` epochs
pub record AreTops (facts : List Fact) (reader count : ℕ) (tops : List ℕ) : Type 0 where
  pub len : length tops ≡ count
  pub each : (e n : ℕ) → e < count → (n < slice_index tops e) ↔ HasAbove facts reader e n

-- the values are the least of the readers' points at the first `count` epochs
pub record AreLeastPoints (roster : ℕ) (facts : List Fact) (count : ℕ) (lows : List ℕ) : Type 0 where
  pub len : length lows ≡ count
  pub each : (e n : ℕ) → e < count → (n < slice_index lows e) ↔ ((reader : ℕ) → IsReader roster reader → HasAbove facts reader e n)

-- the advance is the reader's, of the epoch before e, with a point above n
abbrev pub IsStep : AdvanceData → ℕ → ℕ → ℕ → Type 0
IsStep a reader e n = (a.reader ≡ reader) × (a.epoch + 1 ≡ e) × (n < a.point)

-- the values at the first `count` epochs are the reader's greatest points in the epoch before each
pub record AreSteps (facts : List Fact) (reader count : ℕ) (tops : List ℕ) : Type 0 where
  pub len : length tops ≡ count
  pub each : (e n : ℕ) → e < count → (n < slice_index tops e) ↔ ((a : AdvanceData) × Contains facts (Advance a) × IsStep a reader e n)

-- some value up to the index e is above n
abbrev pub HasTopAbove : List ℕ → ℕ → ℕ → Type 0
HasTopAbove tops e n = (j : ℕ) × (j ≤ e) × (n < slice_index tops j)
