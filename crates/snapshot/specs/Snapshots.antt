-- Snapshots of states, and the pieces of each.
use Rattle.std.specs.Prelude.{◌≡◌, ◌≢◌, ℕ, ◌<◌, ◌≤◌, ◌+◌, ◌*◌, List, length, take, drop, Some}
use Rattle.std.specs.List.{AllByRecursion, slice_get}
use Rattle.redo_core.specs.Book.{BookData, IsBook}
use Rattle.redo_core.specs.Data.{RecordData}
use Rattle.redo_core.specs.Meaning.{ImageData, ImageBefore}
use Rattle.redo_core.specs.Order.{IsRising, Lists, RecordBefore}
use Rattle.redo_core.specs.Roster.{least}
use Rattle.redo_core.specs.Writing.{zeros}
use Rattle.messages.specs.Pieces.{PieceData, max_batch}
use Rattle.messages.specs.declared.pieces.PieceContent.{PieceContent}
use Rattle.messages.specs.declared.pieces.PieceContent.TheVariants.{Head, Page, Records}
use Rattle.segment_theorems.specs.State.{State}
use Rattle.segment_theorems.specs.Shows.{Shows}
use Rattle.segment_theorems.specs.HasMeaning.{HasAnchor, IsKeptBy}

-- a name, how many pieces there are, and what they contain together: the book, the anchor, pages and records
pub record SnapshotData : Type 0 where
  pub name : ℕ
  pub total : ℕ
  pub book : BookData
  pub anchor : ℕ
  pub pages : List ImageData
  pub records : List RecordData

abbrev pub snapshot_of : ℕ → ℕ → BookData → ℕ → List ImageData → List RecordData → SnapshotData
snapshot_of name total book anchor pages records = record {
  name = name;
  total = total;
  book = book;
  anchor = anchor;
  pages = pages;
  records = records;
}

-- so many batches hold so many records, each but the last as many as a piece may have
abbrev pub IsBatchCount : ℕ → ℕ → Type 0
IsBatchCount records batches = (records ≤ max_batch * batches) × (max_batch * batches < records + max_batch)

-- the head is one piece, each of so many pages is one, and so is each batch of so many records
abbrev pub IsPieceCount : ℕ → ℕ → ℕ → Type 0
IsPieceCount pages records total = (batches : ℕ) × IsBatchCount records batches × (total ≡ 1 + pages + batches)

-- which snapshots there are: a book with an anchor up to its minimum read point, pages by page number, none of zeros, records by key
pub record IsSnapshot (d : SnapshotData) : Type 0 where
  pub book : IsBook d.book
  pub anchor : d.anchor ≤ least d.book.points
  pub pages : IsRising ImageBefore d.pages
  pub nonzero : AllByRecursion (λ p. p.bytes ≢ zeros) d.pages
  pub records : IsRising RecordBefore d.records
  pub total : IsPieceCount (length d.pages) (length d.records) d.total

-- the snapshot of a state: its book, its anchor, the nonzero pages there, and the records that its meaning keeps
pub record Freezes (s : State) (d : SnapshotData) : Type 0 where
  pub book : d.book ≡ s.book
  pub anchor : HasAnchor s d.anchor
  pub pages : Lists ImageBefore (λ i. Shows s i.page d.anchor i.bytes × (i.bytes ≢ zeros)) d.pages
  pub records : Lists RecordBefore (IsKeptBy s d.anchor) d.records
  pub total : IsPieceCount (length d.pages) (length d.records) d.total

-- the most pieces that a snapshot has, 2^32 - 1
abbrev pub max_total : ℕ
max_total = 4294967295

-- the piece of an index contains the head, which is the first; then one of the pages; then one of the batches
abbrev pub IsContentAt : SnapshotData → ℕ → PieceContent → Type 0
IsContentAt d index (Head book anchor) = (index ≡ 0) × (book ≡ d.book) × (anchor ≡ d.anchor)
IsContentAt d index (Page p) = (place : ℕ) × (index ≡ 1 + place) × (slice_get d.pages place ≡ Some p)
IsContentAt d index (Records rs) =
    (place : ℕ) × (index ≡ 1 + length d.pages + place) × (rs ≡ take max_batch (drop (max_batch * place) d.records)) × (0 < length rs)

-- the piece is one of the snapshot
pub record IsPieceOf (d : SnapshotData) (p : PieceData) : Type 0 where
  pub name : p.name ≡ d.name
  pub total : p.total ≡ d.total
  pub content : IsContentAt d p.index p.content
