-- Reading pieces. The order of the lines is the order of the faults.
use Rattle.std.specs.Prelude.{ℕ, Bool, true, false, not, List, Result, Ok, nat_lt, nat_le, ◌==◌, ◌&&◌, if◌then◌else◌}
use Rattle.redo_wire.specs.declared.faults.WireFault.{WireFault}
use Rattle.messages.specs.declared.pieces.PieceContent.{PieceContent}
use Rattle.messages.specs.declared.pieces.PieceContent.TheVariants.{Head, Page, Records}
use Rattle.redo_wire.specs.Reading.{◌>>=◌, Read, shaped, known, mapped, whole}
use Rattle.messages.specs.Pieces.{max_batch, PieceData, piece_of}
use Rattle.redo_wire.specs.Fields.{byte_at, u32_at, u48_at, u64_at}
use Rattle.redo_wire.specs.Lists.{each_at}
use Rattle.redo_wire.specs.Tags.{piece_tag, roster_piece_tag, head_kind, page_kind, records_kind}
use Rattle.redo_wire.specs.Forms.{form_at}
use Rattle.messages.specs.Books.{book_min}
use Rattle.redo_wire.specs.BookReading.{book_at}
use Rattle.redo_wire.specs.DeltaReading.{image_at, next_record_at, record_place}
use Rattle.redo_core.specs.Keys.{key_in}

-- the last of the kinds, which are numbered from the head on; for several readers there are heads alone
abbrev pub last_kind : Bool → ℕ
last_kind false = records_kind
last_kind true = head_kind

-- only the head has the index 0, and no other index
abbrev pub is_in_place : ℕ → ℕ → Bool
is_in_place index kind = if index == 0 then kind == head_kind else not (kind == head_kind)

unfoldable pub head_content_at : Bool → List ℕ → Read PieceContent
head_content_at many bytes = do
  book ← book_at many bytes
  anchor ← shaped (λ a. nat_le a (book_min book.0)) (u48_at book.1)
  Ok (Head book.0 anchor.0, anchor.1)

unfoldable pub records_content_at : List ℕ → Read PieceContent
records_content_at bytes = do
  count ← shaped (λ n. nat_lt 0 n && nat_le n max_batch) (byte_at bytes)
  records ← each_at next_record_at record_place count.0 (key_in 0 0) count.1
  Ok (Records records.0, records.1)

-- what a piece of a kind contains
unfoldable pub content_at : Bool → ℕ → List ℕ → Read PieceContent
content_at many kind bytes =
    if kind == head_kind then head_content_at many bytes
    else if kind == page_kind then mapped Page (image_at bytes)
    else records_content_at bytes

-- a piece after its tag, in the form for one reader or for several
unfoldable pub piece_part_at : Bool → List ℕ → Read PieceData
piece_part_at many bytes = do
  name ← u64_at bytes
  index ← u32_at name.1
  total ← shaped (λ n. nat_lt index.0 n) (u32_at index.1)
  kind ← shaped (λ k. is_in_place index.0 k) (known (λ k. nat_le k (last_kind many)) (byte_at total.1))
  content ← content_at many kind.0 kind.1
  Ok (piece_of name.0 index.0 total.0 content.0, content.1)

unfoldable pub piece_at : List ℕ → Read PieceData
piece_at bytes = do
  many ← form_at piece_tag roster_piece_tag bytes
  piece_part_at many.0 many.1

-- the piece that all of the bytes encode, or the first fault
abbrev pub decoded_piece : List ℕ → Result PieceData WireFault
decoded_piece bytes = whole (piece_at bytes)
