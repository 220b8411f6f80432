-- Segments inside one log.
use Rattle.std.specs.Prelude.{◌≡◌, ℕ, List, Some, slice_get}
use Rattle.redo_core.specs.declared.facts.Fact.{Fact}
use Rattle.segment_theorems.specs.State.{State}
use Rattle.segment_theorems.specs.Means.{Means}
use Rattle.node_cell.specs.Kept.{ClosedData, MeansTrail}

-- the segment means some part of the log
abbrev pub MeansPart : ℕ → List Fact → State → Type 0
MeansPart roster log s = (facts : List Fact) × Means roster log facts s

-- of each closed node, the segment means a part of the log that has every fact which the node acknowledged
abbrev pub HasAll : ℕ → List Fact → State → List ClosedData → Type 0
HasAll roster log s closed = (n : ℕ) (c : ClosedData) → slice_get closed n ≡ Some c → MeansTrail roster log s c.trail
