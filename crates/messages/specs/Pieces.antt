-- The invariant of pieces. A segment is frozen into pieces under one name: first its head, then its pages and its records.
use Rattle.std.specs.Prelude.{◌≡◌, ◌≢◌, ℕ, ◌<◌, ◌≤◌, Bool, true, false, length, ◌==◌}
use Rattle.redo_core.specs.Book.{IsBook}
use Rattle.redo_core.specs.Order.{IsRising, RecordBefore}
use Rattle.redo_core.specs.Writing.{zeros}
use Rattle.messages.specs.declared.pieces.PieceContent.{PieceContent}
use Rattle.messages.specs.declared.pieces.PieceContent.TheVariants.{Head, Page, Records}
use Rattle.messages.specs.Books.{book_min}

-- the name of the whole, the index of the piece and how many there are, and its content
pub record PieceData : Type 0 where
  pub name : ℕ
  pub index : ℕ
  pub total : ℕ
  pub content : PieceContent

abbrev pub piece_of : ℕ → ℕ → ℕ → PieceContent → PieceData
piece_of name index total content = record { name = name; index = index; total = total; content = content }

-- the most records of one piece
abbrev pub max_batch : ℕ
max_batch = 64

abbrev pub is_head : PieceContent → Bool
is_head (Head book anchor) = true
is_head (Page p) = false
is_head (Records rs) = false

-- an anchor up to the minimum read point; a page that is not all zeros; some records, in order
abbrev pub IsContent : PieceContent → Type 0
IsContent (Head book anchor) = IsBook book × (anchor ≤ book_min book)
IsContent (Page p) = p.bytes ≢ zeros
IsContent (Records rs) = (0 < length rs) × (length rs ≤ max_batch) × IsRising RecordBefore rs

-- an index below the total, which is 0 for the head and for no other
pub record IsPiece (p : PieceData) : Type 0 where
  pub index : p.index < p.total
  pub first : is_head p.content ≡ (p.index == 0)
  pub content : IsContent p.content
