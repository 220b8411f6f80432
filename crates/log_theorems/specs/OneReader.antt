-- A log of one reader: its only point is the minimum read point, and no later truncation at all may cut below an advance.
use Rattle.std.specs.Prelude.{◌≡◌, ◌<◌, ◌≤◌, ◌↔◌, List, [], ◌∷◌}
use Rattle.std.specs.List.{Contains}
use Rattle.redo_core.specs.Data.{CutData, AdvanceData}
use Rattle.redo_core.specs.Sets.{advances}
use Rattle.redo_core.specs.CompleteEpoch.{HasCutsTo}
use Rattle.redo_core.specs.Points.{IsPoint}
use Rattle.redo_core.specs.Position.{Position, IsPosition}
use Rattle.redo_core.specs.Sound.{counted, Law5}
use Rattle.redo_core.specs.declared.facts.Fact.{Fact}
use Rattle.redo_core.specs.declared.facts.Fact.TheVariants.{Advance}

-- The minimum read point is the greatest point of an effective advance.
abbrev pub OneReader : Type 0
OneReader = (facts : List Fact) (p : Position) → IsPosition 1 facts p → (p.points ≡ p.min ∷ []) × IsPoint (advances facts) p.epoch 1 p.min

-- An advance keeps law 5 where it is reader 1's, its epoch has begun, and no later truncation has its lo below the point.
abbrev pub OneReaderKeeps : Type 0
OneReaderKeeps =
    (log : List Fact) (a : AdvanceData) → Contains (advances log) a
    → Law5 1 log (Advance a)
    ↔ ((a.reader ≡ 1) × HasCutsTo (counted log) a.epoch × ((c : CutData) → Contains (counted log) c → a.epoch < c.epoch → a.point ≤ c.lo))
