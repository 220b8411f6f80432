-- The fact of a line, by the line's fields.
use Rattle.std.specs.Prelude.{ℕ, ◌<◌, ◌==◌, Bool, true, false, List, [], ◌∷◌, length, Option, Some, None, codes, bytes_eq, if◌then◌else◌}
use Rattle.hex.specs.Hex.{decode_of}
use Rattle.redo_core.specs.Data.{record_with, cut_of, advance_of}
use Rattle.redo_core.specs.Shape.{max_number, max_patches, max_readers, record_fault, cut_fault, advance_fault}
use Rattle.redo_core.specs.declared.shapes.ShapeFault.{ShapeFault}
use Rattle.redo_core.specs.declared.patches.Patch.{Patch}
use Rattle.redo_core.specs.declared.patches.Patch.TheVariants.{Bytes, Fill}
use Rattle.redo_core.specs.declared.facts.Fact.{Fact}
use Rattle.redo_core.specs.declared.facts.Fact.TheVariants.{Record, Cut, Advance}
use Rattle.redo_core.specs.declared.records.RecordHead.{RecordHead}
use Rattle.text.specs.Number.{decimal_value}
use Rattle.text.specs.Parts.{◌>>=◌, parts_at}
use Rattle.text.specs.Fields.{numbers_of, of_two, of_three, of_five}
use Rattle.text.specs.HexDigits.{decoded}

-- ---- patches

-- at least one byte, from an offset on
abbrev pub write_at : List ℕ → List ℕ → Option Patch
write_at offset [] = None
write_at offset (b ∷ bs) = decimal_value 65535 offset >>= (λ o. Some (Bytes (record { offset = o; bytes = b ∷ bs })))

-- just one byte, from an offset on, over a length
abbrev pub fill_at : List ℕ → List ℕ → List ℕ → Option Patch
fill_at offset len (byte ∷ []) = do
  o ← decimal_value 65535 offset
  l ← decimal_value 4096 len
  Some (Fill o l byte)
fill_at offset len _ = None

-- the write and the fill whose bytes these digits stand for
abbrev pub write_of : List ℕ → List ℕ → Option Patch
write_of offset digits = decoded (decode_of digits) >>= write_at offset

abbrev pub fill_of : List ℕ → List ℕ → List ℕ → Option Patch
fill_of offset len digits = decoded (decode_of digits) >>= fill_at offset len

-- the patch of bytes at a place, as 0 or 0*16
abbrev pub patch_at : List (List ℕ) → List ℕ → Option Patch
patch_at (offset ∷ []) bytes = write_at offset bytes
patch_at (offset ∷ len ∷ []) bytes = fill_at offset len bytes
patch_at _ bytes = None

-- a place, a colon and hexadecimal digits, as 0:6161 or 0*16:ff
unfoldable pub patch_from : List (List ℕ) → Option Patch
patch_from (place ∷ digits ∷ []) = decoded (decode_of digits) >>= patch_at (parts_at 42 place)
patch_from _ = None

abbrev pub patch_of : List ℕ → Option Patch
patch_of text = patch_from (parts_at 58 text)

abbrev pub each_patch : List (List ℕ) → Option (List Patch)
each_patch [] = Some []
each_patch (text ∷ texts) = do
  p ← patch_of text
  ps ← each_patch texts
  Some (p ∷ ps)

-- ---- what a record does to its page

-- whether the page begins anew, and the patches
pub record Contents : Type 0 where
  pub init : Bool
  pub patches : List Patch

abbrev pub contents : Bool → List Patch → Contents
contents init patches = record { init = init; patches = patches }

-- patches between commas, behind the word init or without it
unfoldable pub contents_from : List (List ℕ) → Option Contents
contents_from [] = None
contents_from (text ∷ texts) =
    if bytes_eq text (codes "init") then (each_patch texts >>= (λ patches. Some (contents true patches)))
    else (each_patch (text ∷ texts) >>= (λ patches. Some (contents false patches)))

-- a dash for no patches
unfoldable pub contents_of : List ℕ → Option Contents
contents_of text = if bytes_eq text (codes "-") then Some (contents false []) else contents_from (parts_at 44 text)

-- no patches, or those of no record: they are too many
abbrev pub FitNoRecord : Option (List Patch) → Type 0
FitNoRecord None = Unit {0}
FitNoRecord (Some patches) = max_patches < length patches

-- ---- facts

-- the fact, where its shape has no fault
abbrev pub unless : Option ShapeFault → Fact → Option Fact
unless None fact = Some fact
unless (Some fault) fact = None

unfoldable pub shaped : Fact → Option Fact
shaped (Record r) = unless (record_fault r) (Record r)
shaped (Cut c) = unless (cut_fault c) (Cut c)
shaped (Advance a) = unless (advance_fault a) (Advance a)

-- the record of these numbers and patches, where its shape has no fault
abbrev pub record_of_patches : RecordHead → Bool → Option (List Patch) → Option Fact
record_of_patches head init None = None
record_of_patches head init (Some patches) = shaped (Record (record_with head.epoch head.number head.back head.page head.block_back init patches))

-- the record of these numbers and contents
abbrev pub record_of_contents : RecordHead → Option Contents → Option Fact
record_of_contents head None = None
record_of_contents head (Some c) = record_of_patches head c.init (Some c.patches)

-- the numbers of a record's line, and their limits
abbrev pub head_numbers : RecordHead → List ℕ
head_numbers h = h.epoch ∷ h.number ∷ h.back ∷ h.page ∷ h.block_back ∷ []

abbrev pub record_limits : List ℕ
record_limits = 65535 ∷ max_number ∷ max_number ∷ 65535 ∷ max_number ∷ []

-- the fields behind rec: epoch, number, segment backlink, page, block backlink, and the contents
unfoldable pub record_line : List (List ℕ) → Option Fact
record_line (e ∷ n ∷ b ∷ p ∷ k ∷ text ∷ []) = do
  numbers ← numbers_of record_limits (e ∷ n ∷ b ∷ p ∷ k ∷ [])
  c ← contents_of text
  of_five (λ epoch number back page block_back. shaped (Record (record_with epoch number back page block_back c.init c.patches))) numbers
record_line _ = None

-- the fields behind cut: epoch, lo, hi
unfoldable pub cut_line : List (List ℕ) → Option Fact
cut_line fields = numbers_of (65535 ∷ max_number ∷ max_number ∷ []) fields >>= of_three (λ epoch lo hi. shaped (Cut (cut_of epoch lo hi)))

-- the fields behind min: epoch, point, and the reader, which is 1 where it is not named
unfoldable pub advance_line : List (List ℕ) → Option Fact
advance_line fields =
    if length fields == 2 then (numbers_of (65535 ∷ max_number ∷ []) fields >>= of_two (λ epoch point. shaped (Advance (advance_of epoch 1 point))))
    else (numbers_of (65535 ∷ max_number ∷ max_readers ∷ []) fields >>= of_three (λ epoch point reader. shaped (Advance (advance_of epoch reader point))))

-- the fields of a fact line
unfoldable pub fact_line : List (List ℕ) → Option Fact
fact_line [] = None
fact_line (word ∷ fields) =
    if bytes_eq word (codes "rec") then record_line fields
    else if bytes_eq word (codes "cut") then cut_line fields
    else if bytes_eq word (codes "min") then advance_line fields
    else None

-- the fact of a line
abbrev pub fact_of : List ℕ → Option Fact
fact_of line = fact_line (parts_at 32 line)
