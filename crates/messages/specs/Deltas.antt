-- The invariant of deltas.
use Rattle.std.specs.Prelude.{◌≡◌, ◌≢◌, ℕ, ◌≤◌, List, []}
use Rattle.std.specs.List.{AllByRecursion}
use Rattle.redo_core.specs.Book.{BookData, IsBook}
use Rattle.redo_core.specs.Data.{RecordData}
use Rattle.redo_core.specs.Order.{IsRising, RecordBefore}
use Rattle.redo_core.specs.Writing.{zeros}
use Rattle.redo_core.specs.Meaning.{ImageData, ImageBefore}
use Rattle.messages.specs.Books.{book_min}

-- the book, the base point with the pages there, and records
pub record DeltaData : Type 0 where
  pub book : BookData
  pub base : ℕ
  pub pages : List ImageData
  pub records : List RecordData

abbrev pub delta_of : BookData → ℕ → List ImageData → List RecordData → DeltaData
delta_of book base pages records = record { book = book; base = base; pages = pages; records = records }

-- a base up to the minimum read point, pages in order and none of zeros, none at all at base 0, and records in order
pub record IsDelta (d : DeltaData) : Type 0 where
  pub book : IsBook d.book
  pub base : d.base ≤ book_min d.book
  pub no_base : d.base ≡ 0 → d.pages ≡ []
  pub pages : IsRising ImageBefore d.pages
  pub each_page : AllByRecursion (λ p. p.bytes ≢ zeros) d.pages
  pub records : IsRising RecordBefore d.records
