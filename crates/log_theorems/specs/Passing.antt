-- Truncations that all readers are past, by LSNs alone: what a checker computes.
use Rattle.std.specs.Prelude.{ℕ, ◌-◌, ◌<◌, ◌≤◌, ◌↔◌, List}
use Rattle.std.specs.List.{Contains}
use Rattle.redo_core.specs.Data.{CutData, AdvanceData}
use Rattle.redo_core.specs.Sets.{advances}
use Rattle.redo_core.specs.Roster.{least}
use Rattle.redo_core.specs.Points.{ArePoints}
use Rattle.redo_core.specs.Past.{ArePast}
use Rattle.redo_core.specs.Sound.{counted}
use Rattle.redo_core.specs.declared.facts.Fact.{Fact}

-- All readers are past a truncation exactly where its lo is below the least of their points by the advances of earlier epochs.
abbrev pub PastByPoints : Type 0
PastByPoints =
    (roster : ℕ) (given : List AdvanceData) (c : CutData) (points : List ℕ)
    → 1 ≤ roster → 0 < c.epoch → ArePoints roster given (c.epoch - 1) points
    → ArePast roster given c ↔ (c.lo < least points)

-- No advance of a log is cut below by a later truncation that all readers are past, exactly where there is no such truncation.
abbrev pub NonePassed : Type 0
NonePassed =
    (roster : ℕ) (log : List Fact) → 1 ≤ roster
    → ((a : AdvanceData) (c : CutData) → Contains (advances log) a → Contains (counted log) c → a.epoch < c.epoch → ArePast roster (advances log) c
    → a.point ≤ c.lo)
    ↔ ((c : CutData) → Contains (counted log) c → ArePast roster (advances log) c → ⊥)
