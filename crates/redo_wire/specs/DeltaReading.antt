-- Reading deltas. The order of the lines is the order of the faults.
use Rattle.std.specs.Prelude.{ℕ, ◌+◌, Bool, not, List, Result, Ok, nat_lt, nat_le, ◌==◌, ◌||◌}
use Rattle.std.specs.List.{list_any}
use Rattle.redo_core.specs.Data.{RecordData}
use Rattle.redo_core.specs.Keys.{key_in, key_of}
use Rattle.redo_core.specs.declared.keys.Key.{Key}
use Rattle.redo_core.specs.Meaning.{ImageData}
use Rattle.redo_wire.specs.declared.faults.WireFault.{WireFault}
use Rattle.redo_wire.specs.Reading.{◌>>=◌, Read, shaped, ordered, whole}
use Rattle.redo_wire.specs.Fields.{bytes_at, u16_at, u32_at, u48_at}
use Rattle.redo_wire.specs.Lists.{each_at}
use Rattle.redo_core.specs.Shape.{page_len}
use Rattle.redo_wire.specs.Tags.{delta_tag, roster_delta_tag}
use Rattle.redo_wire.specs.Forms.{form_at}
use Rattle.redo_wire.specs.Places.{is_above}
use Rattle.redo_wire.specs.RecordReading.{record_at}
use Rattle.messages.specs.Books.{book_min}
use Rattle.redo_wire.specs.BookReading.{book_at}
use Rattle.messages.specs.Deltas.{DeltaData, delta_of}
use Rattle.messages.specs.Images.{image_of}

abbrev pub is_nonzero : List ℕ → Bool
is_nonzero bytes = list_any (λ b. not (b == 0)) bytes

-- without a base there are no pages
abbrev pub may_have : ℕ → ℕ → Bool
may_have base pages = nat_lt 0 base || pages == 0

unfoldable pub image_at : List ℕ → Read ImageData
image_at bytes = do
  page ← u16_at bytes
  image ← shaped is_nonzero (bytes_at page_len page.1)
  Ok (image_of page.0 image.0, image.1)

-- the least page number that a page after p may have
abbrev pub page_after : ℕ → ImageData → ℕ
page_after least p = p.page + 1

abbrev pub next_image_at : ℕ → List ℕ → Read ImageData
next_image_at least bytes = ordered (λ p. nat_le least p.page) (image_at bytes)

abbrev pub record_place : Key → RecordData → Key
record_place last r = key_of r

abbrev pub next_record_at : Key → List ℕ → Read RecordData
next_record_at last bytes = ordered (λ r. is_above last (key_of r)) (record_at bytes)

-- a delta after its tag, in the form for one reader or for several
unfoldable pub delta_part_at : Bool → List ℕ → Read DeltaData
delta_part_at many bytes = do
  book ← book_at many bytes
  base ← shaped (λ n. nat_le n (book_min book.0)) (u48_at book.1)
  page_count ← shaped (λ n. may_have base.0 n) (u32_at base.1)
  pages ← each_at next_image_at page_after page_count.0 0 page_count.1
  record_count ← u32_at pages.1
  records ← each_at next_record_at record_place record_count.0 (key_in 0 0) record_count.1
  Ok (delta_of book.0 base.0 pages.0 records.0, records.1)

unfoldable pub delta_at : List ℕ → Read DeltaData
delta_at bytes = do
  many ← form_at delta_tag roster_delta_tag bytes
  delta_part_at many.0 many.1

-- the delta that all of the bytes encode, or the first fault
abbrev pub decoded_delta : List ℕ → Result DeltaData WireFault
decoded_delta bytes = whole (delta_at bytes)
