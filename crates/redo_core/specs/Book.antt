-- What is known of the truncations and advances of a log: a book. Whoever stores one maintains its invariant.
use Rattle.std.specs.Prelude.{◌≡◌, ℕ, ◌<◌, ◌≤◌, List, length, None}
use Rattle.std.specs.List.{All}
use Rattle.redo_core.specs.Data.{CutData, AdvanceData}
use Rattle.redo_core.specs.Shape.{cut_fault, advance_fault, max_number, epoch_count}
use Rattle.redo_core.specs.Roster.{IsRoster, IsReader}
use Rattle.redo_core.specs.Order.{IsRising, CutBefore, AdvanceBefore}
use Rattle.redo_core.specs.CompleteEpoch.{IsCompleteEpoch}

-- the truncations, the complete epoch, each reader's point, and the advances that wait
pub record BookData : Type 0 where
  pub cuts : List CutData
  pub complete : ℕ
  pub points : List ℕ
  pub waits : List AdvanceData

abbrev pub book_of : List CutData → ℕ → List ℕ → List AdvanceData → BookData
book_of cuts complete points waits = record { cuts = cuts; complete = complete; points = points; waits = waits }

-- how many readers the book has a point for
abbrev pub roster_of : BookData → ℕ
roster_of b = length b.points

-- Both lists rise, so that there is at most one truncation of an epoch; all facts have their shape; what waits is of a later epoch
-- and of a reader of the roster.
pub record IsBook (b : BookData) : Type 0 where
  pub cuts_rise : IsRising CutBefore b.cuts
  pub cuts_shaped : All (λ c. cut_fault c ≡ None) b.cuts
  pub epochs_fit : All (λ c. c.epoch < epoch_count) b.cuts
  pub complete : IsCompleteEpoch b.cuts b.complete
  pub roster : IsRoster (roster_of b)
  pub points_shaped : All (λ p. p ≤ max_number) b.points
  pub waits_rise : IsRising AdvanceBefore b.waits
  pub waits_shaped : All (λ a. advance_fault a ≡ None) b.waits
  pub waits_later : All (λ a. b.complete < a.epoch) b.waits
  pub waits_readers : All (λ a. IsReader (roster_of b) a.reader) b.waits
