-- Reading records. The order of the lines is the order of the faults.
use Rattle.std.specs.Prelude.{ℕ, ◌+◌, ◌-◌, Bool, true, false, not, List, Ok, Err, nat_lt, nat_le, ◌==◌, ◌&&◌, ◌||◌, if◌then◌else◌}
use Rattle.redo_core.specs.Writes.{WriteData}
use Rattle.redo_core.specs.Data.{RecordData, record_with}
use Rattle.redo_core.specs.Shape.{bytes_in}
use Rattle.redo_core.specs.declared.patches.Patch.{Patch}
use Rattle.redo_core.specs.declared.patches.Patch.TheVariants.{Bytes, Fill}
use Rattle.redo_core.specs.declared.records.RecordHead.{RecordHead}
use Rattle.redo_wire.specs.declared.faults.WireFault.TheVariants.{UnknownTag}
use Rattle.redo_wire.specs.Reading.{◌>>=◌, Read, shaped, mapped}
use Rattle.redo_wire.specs.Fields.{byte_at, bytes_at, u16_at, u48_at}
use Rattle.redo_wire.specs.Lists.{each_at}
use Rattle.redo_core.specs.Shape.{page_len, max_patches, max_bytes}
use Rattle.redo_wire.specs.Tags.{record_tag, full_record_tag, bytes_kind, fill_kind}
use Rattle.redo_wire.specs.Forms.{form_at, within_at}
use Rattle.redo_wire.specs.Records.{is_full_body}

-- A write's length is judged before its bytes; `left` is how many bytes the writes from here on may have.
unfoldable pub write_at : ℕ → List ℕ → Read WriteData
write_at left bytes = do
  offset ← u16_at bytes
  len ← shaped (λ n. nat_lt 0 n && nat_le (offset.0 + n) page_len && nat_le n left) (u16_at offset.1)
  text ← bytes_at len.0 len.1
  Ok (record { offset = offset.0; bytes = text.0 }, text.1)

-- a fill after its kind
unfoldable pub fill_at : List ℕ → Read Patch
fill_at bytes = do
  offset ← u16_at bytes
  len ← shaped (λ n. nat_lt 0 n && nat_le (offset.0 + n) page_len) (u16_at offset.1)
  byte ← byte_at len.1
  Ok (Fill offset.0 len.0 byte.0, byte.1)

-- a patch of a kind
abbrev pub kind_at : ℕ → ℕ → List ℕ → Read Patch
kind_at kind left bytes =
    if kind == bytes_kind then mapped Bytes (write_at left bytes)
    else if kind == fill_kind then fill_at bytes
    else Err UnknownTag

-- a patch in the plain form and in the full form
unfoldable pub patch_at : Bool → ℕ → List ℕ → Read Patch
patch_at false left bytes = mapped Bytes (write_at left bytes)
patch_at true left bytes = byte_at bytes >>= λ kind. kind_at kind.0 left kind.1

abbrev pub left_after : ℕ → Patch → ℕ
left_after left p = left - bytes_in p

-- the fields up to the block backlink
unfoldable pub head_at : List ℕ → Read RecordHead
head_at bytes = do
  epoch ← u16_at bytes
  number ← shaped (λ n. nat_lt 0 n) (u48_at epoch.1)
  back ← shaped (λ b. nat_lt b number.0) (u48_at number.1)
  page ← u16_at back.1
  block_back ← shaped (λ b. nat_le b back.0) (u48_at page.1)
  Ok (record { epoch = epoch.0; number = number.0; back = back.0; page = page.0; block_back = block_back.0 }, block_back.1)

abbrev pub record_from : RecordHead → Bool → List Patch → RecordData
record_from head init patches = record_with head.epoch head.number head.back head.page head.block_back init patches

-- a record after its tag; what the plain form can encode is refused in the full form, as soon as all patches are read
unfoldable pub record_part_at : Bool → List ℕ → Read RecordData
record_part_at full bytes = do
  head ← head_at bytes
  flags ← within_at full 0 0 1 head.1
  count ← shaped (λ n. nat_le n max_patches) (byte_at flags.1)
  patches ← shaped (λ ps. not full || is_full_body (flags.0 == 1) ps) (each_at (patch_at full) left_after count.0 max_bytes count.1)
  Ok (record_from head.0 (flags.0 == 1) patches.0, patches.1)

-- a record with its tag; every other tag is unknown here, even that of another fact
unfoldable pub record_at : List ℕ → Read RecordData
record_at bytes = do
  full ← form_at record_tag full_record_tag bytes
  record_part_at full.0 full.1
