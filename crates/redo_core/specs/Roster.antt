-- The roster of a log: its readers, numbered from 1. Each has a read point of its own; nothing is read below the least of them.
use Rattle.std.specs.Prelude.{ℕ, ◌-◌, ◌≤◌, List, [], ◌∷◌, min, slice_index}
use Rattle.redo_core.specs.Shape.{max_readers}

-- a roster has 1 to 15 readers
abbrev pub IsRoster : ℕ → Type 0
IsRoster roster = (1 ≤ roster) × (roster ≤ max_readers)

-- one of the readers of a roster
abbrev pub IsReader : ℕ → ℕ → Type 0
IsReader roster reader = (1 ≤ reader) × (reader ≤ roster)

-- the point of a reader, where a list has one for each reader
abbrev pub point_of : List ℕ → ℕ → ℕ
point_of points reader = slice_index points (reader - 1)

-- the least of the points
abbrev pub least : List ℕ → ℕ
least [] = 0
least (p ∷ []) = p
least (p ∷ q ∷ ps) = min p (least (q ∷ ps))
