-- Pieces: which have bytes, and the one encoding of each.
use Rattle.std.specs.Prelude.{◌≡◌, ℕ, ◌<◌, ◌^◌, Bool, false, List, [], ◌∷◌, ◌++◌, length}
use Rattle.std.specs.List.{AllByRecursion, flat_map}
use Rattle.messages.specs.declared.pieces.PieceContent.{PieceContent}
use Rattle.messages.specs.declared.pieces.PieceContent.TheVariants.{Head, Page, Records}
use Rattle.messages.specs.Books.{has_many}
use Rattle.messages.specs.Pieces.{PieceData, IsPiece}
use Rattle.redo_wire.specs.Fields.{u32, u48, u64}
use Rattle.redo_wire.specs.Tags.{piece_tag, roster_piece_tag, head_kind, page_kind, records_kind}
use Rattle.redo_wire.specs.Forms.{form_bytes}
use Rattle.redo_wire.specs.Records.{IsWireRecord, record_bytes}
use Rattle.redo_wire.specs.Books.{IsWireBook, is_long_book, book_bytes}
use Rattle.redo_wire.specs.Deltas.{IsWireImage, image_bytes}

abbrev pub IsWireContent : PieceContent → Type 0
IsWireContent (Head book anchor) = IsWireBook book
IsWireContent (Page p) = IsWireImage p
IsWireContent (Records rs) = AllByRecursion IsWireRecord rs

-- Its parts have the fields that their types hold, and the lists of a head are no longer than their count fields hold.
pub record IsWirePiece (p : PieceData) : Type 0 where
  pub shape : IsPiece p
  pub name : p.name < 2 ^ 64
  pub index : p.index < 2 ^ 32
  pub total : p.total < 2 ^ 32
  pub content : IsWireContent p.content

-- a list is longer than its count field holds, which those of a head alone can be
abbrev pub is_long_content : PieceContent → Bool
is_long_content (Head book anchor) = is_long_book book
is_long_content (Page p) = false
is_long_content (Records rs) = false

abbrev pub is_long_piece : PieceData → Bool
is_long_piece p = is_long_content p.content

-- ---- encoding

abbrev pub kind_of : PieceContent → ℕ
kind_of (Head book anchor) = head_kind
kind_of (Page p) = page_kind
kind_of (Records rs) = records_kind

-- It is a head for a roster of several readers. Pages and records have one form for every roster.
abbrev pub is_for_many : PieceContent → Bool
is_for_many (Head book anchor) = has_many book
is_for_many (Page p) = false
is_for_many (Records rs) = false

-- what a piece contains, after its kind; the count of records in one byte
abbrev pub content_bytes : Bool → PieceContent → List ℕ
content_bytes many (Head book anchor) = book_bytes many book ++ u48 anchor
content_bytes many (Page p) = image_bytes p
content_bytes many (Records rs) = (length rs ∷ []) ++ flat_map record_bytes rs

-- a piece after its tag, in the form for one reader or for several
abbrev pub piece_part_bytes : Bool → PieceData → List ℕ
piece_part_bytes many p = u64 p.name ++ u32 p.index ++ u32 p.total ++ (kind_of p.content ∷ []) ++ content_bytes many p.content

abbrev pub piece_bytes : PieceData → List ℕ
piece_bytes p = form_bytes piece_tag roster_piece_tag (is_for_many p.content) ++ piece_part_bytes (is_for_many p.content) p

-- the bytes encode the piece
abbrev pub EncodesPiece : PieceData → List ℕ → Type 0
EncodesPiece p bytes = IsWirePiece p × (bytes ≡ piece_bytes p)
