-- Deltas: which have bytes, and the one encoding of each.
use Rattle.std.specs.Prelude.{◌≡◌, ℕ, ◌<◌, ◌^◌, Bool, List, ◌++◌, length, nat_le, ◌||◌}
use Rattle.std.specs.List.{AllByRecursion, flat_map}
use Rattle.redo_core.specs.Meaning.{ImageData}
use Rattle.messages.specs.Books.{has_many}
use Rattle.messages.specs.Deltas.{DeltaData, IsDelta}
use Rattle.redo_wire.specs.Fields.{u16, u32, u48}
use Rattle.redo_core.specs.Shape.{page_len}
use Rattle.redo_wire.specs.Limits.{count32_end}
use Rattle.redo_wire.specs.Tags.{delta_tag, roster_delta_tag}
use Rattle.redo_wire.specs.Forms.{form_bytes}
use Rattle.redo_wire.specs.Records.{IsWireRecord, record_bytes}
use Rattle.redo_wire.specs.Books.{IsWireBook, is_long_book, book_bytes}

pub record IsWireImage (p : ImageData) : Type 0 where
  pub page : p.page < 2 ^ 16
  pub size : length p.bytes ≡ page_len

-- Its elements have the fields that their types hold, and its lists are no longer than their count fields hold.
pub record IsWireDelta (d : DeltaData) : Type 0 where
  pub shape : IsDelta d
  pub book : IsWireBook d.book
  pub each_page : AllByRecursion IsWireImage d.pages
  pub each_record : AllByRecursion IsWireRecord d.records
  pub page_count : length d.pages < 2 ^ 32
  pub record_count : length d.records < 2 ^ 32

-- a list is longer than its count field holds
abbrev pub is_long_delta : DeltaData → Bool
is_long_delta d = is_long_book d.book || nat_le count32_end (length d.pages) || nat_le count32_end (length d.records)

-- ---- encoding

abbrev pub image_bytes : ImageData → List ℕ
image_bytes p = u16 p.page ++ p.bytes

-- a delta after its tag, in the form for one reader or for several
abbrev pub delta_part_bytes : Bool → DeltaData → List ℕ
delta_part_bytes many d =
    book_bytes many d.book ++ u48 d.base ++ u32 (length d.pages) ++ flat_map image_bytes d.pages ++ u32 (length d.records) ++ flat_map record_bytes d.records

abbrev pub delta_bytes : DeltaData → List ℕ
delta_bytes d = form_bytes delta_tag roster_delta_tag (has_many d.book) ++ delta_part_bytes (has_many d.book) d

-- the bytes encode the delta
abbrev pub EncodesDelta : DeltaData → List ℕ → Type 0
EncodesDelta d bytes = IsWireDelta d × (bytes ≡ delta_bytes d)
