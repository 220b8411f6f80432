-- What a book is after it has learnt a truncation or an advance.
use Rattle.std.specs.Prelude.{◌≡◌, ◌<◌, ◌≤◌, ◌⊎◌, ◌↔◌, [], ◌∷◌}
use Rattle.std.specs.List.{Contains}
use Rattle.redo_core.specs.Data.{CutData, AdvanceData}
use Rattle.redo_core.specs.Roster.{point_of}
use Rattle.redo_core.specs.Points.{RaisesPoints}
use Rattle.redo_core.specs.Book.{BookData}

-- There is one more truncation. The advances that waited for an epoch up to the new complete one take effect; the others wait on.
pub record LearnsCut (old : BookData) (c : CutData) (new : BookData) : Type 0 where
  pub cuts : (d : CutData) → Contains new.cuts d ↔ (Contains old.cuts d ⊎ (d ≡ c))
  pub points : RaisesPoints new.complete old.points old.waits new.points
  pub waits : (a : AdvanceData) → Contains new.waits a ↔ (Contains old.waits a × (new.complete < a.epoch))

-- an advance of a known epoch takes effect
pub record Counts (old : BookData) (a : AdvanceData) (new : BookData) : Type 0 where
  pub points : RaisesPoints old.complete old.points (a ∷ []) new.points
  pub waits : new.waits ≡ old.waits

-- one of a later epoch waits
pub record Waits (old : BookData) (a : AdvanceData) (new : BookData) : Type 0 where
  pub points : new.points ≡ old.points
  pub waits : (b : AdvanceData) → Contains new.waits b ↔ (Contains old.waits b ⊎ (b ≡ a))

pub record LearnsAdvance (old : BookData) (a : AdvanceData) (new : BookData) : Type 0 where
  pub cuts : new.cuts ≡ old.cuts
  pub complete : new.complete ≡ old.complete
  pub known : a.epoch ≤ old.complete → Counts old a new
  pub later : old.complete < a.epoch → Waits old a new

-- nothing is new in the advance
abbrev pub KnowsAdvance : BookData → AdvanceData → Type 0
KnowsAdvance b a = ((a.epoch ≤ b.complete) × (a.point ≤ point_of b.points a.reader)) ⊎ Contains b.waits a
