-- When a book refuses a fact, and what the error reports.
use Rattle.std.specs.Prelude.{◌≡◌, ◌≢◌, ◌<◌, ◌≤◌}
use Rattle.std.specs.List.{Contains}
use Rattle.redo_core.specs.Data.{CutData, AdvanceData}
use Rattle.redo_core.specs.Order.{CutBefore, AdvanceBefore}
use Rattle.redo_core.specs.Roster.{IsReader, least}
pub use Rattle.redo_core.specs.CompleteEpoch.{LacksCut}
pub use Rattle.redo_core.specs.Order.{IsFirst}
pub use Rattle.redo_core.specs.Past.{Contradict, OthersPast, CutsBelow}
use Rattle.epoch_book.specs.Book.{BookData, roster_of}
use Rattle.epoch_book.specs.declared.refusals.Held.TheVariants.{Min, Advance, Cut}
use Rattle.epoch_book.specs.declared.refusals.BookRefusal.{BookRefusal}
use Rattle.epoch_book.specs.declared.refusals.BookRefusal.TheVariants.{OtherRoster, OtherCut, Contradiction, Memory}

-- In order of precedence: another truncation of its epoch is stored; it is not stored, and its lo is below the minimum; or each reader
-- is known to be past it, where the error reports the first waiting advance of an earlier epoch with a point above the lo.
abbrev pub RefusesCut : BookData → CutData → BookRefusal → Type 0
RefusesCut b c (OtherRoster own shown) = ⊥
RefusesCut b c (OtherCut d) = Contains b.cuts d × (d.epoch ≡ c.epoch) × (d ≢ c)
RefusesCut b c (Contradiction (Min m)) = LacksCut b.cuts c.epoch × (m ≡ least b.points) × (c.lo < m)
RefusesCut b c (Contradiction (Advance a)) =
    LacksCut b.cuts c.epoch × (least b.points ≤ c.lo) × OthersPast b.points b.waits c 0
    × IsFirst AdvanceBefore (λ w. Contains b.waits w × Contradict c w) a
RefusesCut b c (Contradiction (Cut d)) = ⊥
RefusesCut b c Memory = ⊥

-- In order of precedence: the reader is not of the roster; a truncation of a later epoch is stored that cuts below the point.
abbrev pub RefusesAdvance : BookData → AdvanceData → BookRefusal → Type 0
RefusesAdvance b a (OtherRoster own shown) = (own ≡ roster_of b) × (shown ≡ a.reader) × (IsReader (roster_of b) a.reader → ⊥)
RefusesAdvance b a (Contradiction (Cut d)) = IsReader (roster_of b) a.reader × IsFirst CutBefore
    (λ c. Contains b.cuts c × CutsBelow b.complete b.points b.waits c a) d
RefusesAdvance b a (Contradiction (Min m)) = ⊥
RefusesAdvance b a (Contradiction (Advance w)) = ⊥
RefusesAdvance b a (OtherCut d) = ⊥
RefusesAdvance b a Memory = ⊥
