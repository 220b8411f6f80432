-- What the stored records lack below the first one that is not linked.
use Rattle.std.specs.Prelude.{◌≡◌, ℕ, ◌+◌, ◌<◌, List, Option, Some, None}
use Rattle.std.specs.List.{Contains}
use Rattle.redo_core.specs.Data.{RecordData}
use Rattle.redo_core.specs.Order.{IsFirst, BeforeByNumber}
use Rattle.redo_core.specs.Standing.{IsWaiting}
use Rattle.epoch_book.specs.Book.{BookData}
use Rattle.hot_log.specs.Alive.{IsHeldAlive, IsLinkedFrom, HasNoneAbove}

-- the record is blocked by an LSN: stored records link it from there, and none that is alive has the LSN
abbrev pub HangsOn : BookData → List RecordData → RecordData → ℕ → Type 0
HangsOn book held r n = IsLinkedFrom book held n r.number × ((s : RecordData) → IsHeldAlive book held s → s.number ≡ n → ⊥)

-- the LSN that blocks the first alive record above one, or none where no alive record is above it
abbrev pub IsGapAbove : BookData → List RecordData → ℕ → Option ℕ → Type 0
IsGapAbove book held above None = HasNoneAbove book held above
IsGapAbove book held above (Some n) =
    (first : RecordData) × IsFirst BeforeByNumber (λ r. IsHeldAlive book held r × (above < r.number)) first × HangsOn book held first n

-- a stored record waits
abbrev pub HasWaiting : BookData → List RecordData → Type 0
HasWaiting book held = (r : RecordData) × Contains held r × IsWaiting book.complete r.epoch

-- the epoch after the complete one, or none where no stored record waits
abbrev pub IsAwaited : BookData → List RecordData → Option ℕ → Type 0
IsAwaited book held None = HasWaiting book held → ⊥
IsAwaited book held (Some epoch) = HasWaiting book held × (epoch ≡ book.complete + 1)
