-- Reading summaries. The order of the lines is the order of the faults.
use Rattle.std.specs.Prelude.{ℕ, Bool, List, Result, Ok, nat_lt, nat_le}
use Rattle.redo_wire.specs.declared.faults.WireFault.{WireFault}
use Rattle.redo_wire.specs.Reading.{◌>>=◌, Read, shaped, ordered, whole}
use Rattle.redo_wire.specs.Fields.{u16_at, u32_at, u48_at}
use Rattle.redo_wire.specs.Lists.{each_at}
use Rattle.redo_wire.specs.Tags.{summary_tag, roster_summary_tag}
use Rattle.redo_wire.specs.Forms.{form_at}
use Rattle.redo_wire.specs.Places.{is_above}
use Rattle.messages.specs.Books.{book_min}
use Rattle.redo_wire.specs.BookReading.{book_at}
use Rattle.messages.specs.Summaries.{SummaryData, summary_of}
use Rattle.redo_core.specs.Keys.{key_in}
use Rattle.redo_core.specs.declared.keys.Key.{Key}

unfoldable pub key_at : List ℕ → Read Key
key_at bytes = do
  epoch ← u16_at bytes
  number ← shaped (λ n. nat_lt 0 n) (u48_at epoch.1)
  Ok (record { epoch = epoch.0; number = number.0 }, number.1)

abbrev pub key_place : Key → Key → Key
key_place last k = k

abbrev pub next_key_at : Key → List ℕ → Read Key
next_key_at last bytes = ordered (λ k. is_above last k) (key_at bytes)

-- a summary after its tag, in the form for one reader or for several
unfoldable pub summary_part_at : Bool → List ℕ → Read SummaryData
summary_part_at many bytes = do
  book ← book_at many bytes
  anchor ← shaped (λ a. nat_le a (book_min book.0)) (u48_at book.1)
  key_count ← u32_at anchor.1
  keys ← each_at next_key_at key_place key_count.0 (key_in 0 0) key_count.1
  Ok (summary_of book.0 anchor.0 keys.0, keys.1)

unfoldable pub summary_at : List ℕ → Read SummaryData
summary_at bytes = do
  many ← form_at summary_tag roster_summary_tag bytes
  summary_part_at many.0 many.1

-- the summary that all of the bytes encode, or the first fault
abbrev pub decoded_summary : List ℕ → Result SummaryData WireFault
decoded_summary bytes = whole (summary_at bytes)
