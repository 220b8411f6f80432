-- Which pieces can follow one another.
use Rattle.std.specs.Prelude.{◌≡◌, ℕ, ◌<◌, ◌⊎◌, zero, suc, List, length, Some}
use Rattle.std.specs.List.{Contains}
use Rattle.redo_core.specs.Book.{BookData}
use Rattle.redo_core.specs.Data.{RecordData}
use Rattle.redo_core.specs.Meaning.{ImageData}
use Rattle.redo_core.specs.Order.{RecordBefore}
use Rattle.redo_core.specs.Standing.{IsAlive, IsWaiting}
use Rattle.epoch_book.specs.Contradicted.{IsContradicted}
use Rattle.messages.specs.Pieces.{PieceData, max_batch}
use Rattle.messages.specs.declared.pieces.PieceContent.{PieceContent}
use Rattle.messages.specs.declared.pieces.PieceContent.TheVariants.{Head, Page, Records}
use Rattle.snapshot.specs.Stagings.{StagingData, piece_at, IsMissingPiece}

-- a record that waits for the book, or is alive in its view above the anchor
abbrev pub IsKeptFor : BookData → ℕ → RecordData → Type 0
IsKeptFor book anchor r = IsWaiting book.complete r.epoch ⊎ (IsAlive book.cuts book.complete r.epoch r.number × (anchor < r.number))

-- a page can follow the head, and a page of a lower page number, but not records
abbrev pub PageFollows : PieceContent → ImageData → Type 0
PageFollows (Head book anchor) p = Unit {0}
PageFollows (Page q) p = q.page < p.page
PageFollows (Records qs) p = ⊥

-- records can follow the head, a page, and a full batch of lower keys
abbrev pub RecordsFollow : PieceContent → List RecordData → Type 0
RecordsFollow (Head book anchor) rs = Unit {0}
RecordsFollow (Page q) rs = Unit {0}
RecordsFollow (Records qs) rs = (length qs ≡ max_batch) × ((q r : RecordData) → Contains qs q → Contains rs r → RecordBefore q r)

-- After a head of this book and anchor, what can follow a piece: a page only where the anchor is not 0, and only kept records.
-- There is no other head.
abbrev pub CanFollow : BookData → ℕ → PieceContent → PieceContent → Type 0
CanFollow book anchor before (Head b a) = ⊥
CanFollow book anchor before (Page p) = (0 < anchor) × PageFollows before p
CanFollow book anchor before (Records rs) = RecordsFollow before rs × ((r : RecordData) → Contains rs r → IsKeptFor book anchor r)

-- the head of a staging is of this book and anchor
abbrev pub HasHead : StagingData → BookData → ℕ → Type 0
HasHead st book anchor = (p : PieceData) × (piece_at st 0 ≡ Some p) × (p.content ≡ Head book anchor)

-- the piece of an index is in place: a head whose book does not contradict itself, then what can follow the piece before
abbrev pub CanStand : StagingData → ℕ → Type 0
CanStand st zero = (book : BookData) × (anchor : ℕ) × HasHead st book anchor × (IsContradicted book → ⊥)
CanStand st (suc index) =
    (book : BookData) × (anchor : ℕ) × (before here : PieceData) × HasHead st book anchor
    × (piece_at st index ≡ Some before) × (piece_at st (suc index) ≡ Some here) × CanFollow book anchor before.content here.content

-- the piece of an index is not in place
abbrev pub IsMisplaced : StagingData → ℕ → Type 0
IsMisplaced st index = (index < st.total) × (CanStand st index → ⊥)

-- no piece is missing
abbrev pub IsComplete : StagingData → Type 0
IsComplete st = (index : ℕ) → IsMissingPiece st index → ⊥

-- each piece is there and in place
abbrev pub IsInOrder : StagingData → Type 0
IsInOrder st = IsComplete st × ((index : ℕ) → IsMisplaced st index → ⊥)
