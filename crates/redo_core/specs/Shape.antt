-- Which records, truncations and advances there are, and the first fault of the others.
use Rattle.std.specs.Prelude.{ℕ, ◌+◌, Bool, List, length, ◌==◌, nat_lt, nat_le, Option, Some, None, if◌then◌else◌}
use Rattle.std.specs.List.{list_any, sum_by}
use Rattle.std.specs.Option.{option_or}
use Rattle.redo_core.specs.Writes.{WriteData}
use Rattle.redo_core.specs.Data.{RecordData, CutData, AdvanceData}
use Rattle.redo_core.specs.declared.patches.Patch.{Patch}
use Rattle.redo_core.specs.declared.patches.Patch.TheVariants.{Bytes, Fill}
use Rattle.redo_core.specs.declared.shapes.ShapeFault.{ShapeFault}
use Rattle.redo_core.specs.declared.shapes.ShapeFault.TheVariants.{NumberIsZero, BackNotBelow, BlockBackAbove, ManyWrites, EmptyWrite, OffPage, ManyBytes, EpochIsZero, LoAboveHi, TooLarge, NoSuchReader, RosterSize}

-- the greatest LSN, 2^48 - 1
abbrev pub max_number : ℕ
max_number = 281474976710655

-- the most readers that a roster has
abbrev pub max_readers : ℕ
max_readers = 15

-- the number of epochs, with 0: 2^16
abbrev pub epoch_count : ℕ
epoch_count = 65536

-- the length of a page, in bytes
abbrev pub page_len : ℕ
page_len = 4096

-- the most patches that a record has
abbrev pub max_patches : ℕ
max_patches = 64

-- the most bytes that the writes of a record bring together
abbrev pub max_bytes : ℕ
max_bytes = 8192

-- a write has no bytes
abbrev pub is_empty : WriteData → Bool
is_empty w = length w.bytes == 0

-- a write extends past the end of its page
abbrev pub is_off_page : WriteData → Bool
is_off_page w = nat_lt page_len (w.offset + length w.bytes)

-- the same for patches
abbrev pub is_empty_patch : Patch → Bool
is_empty_patch (Bytes w) = is_empty w
is_empty_patch (Fill offset len byte) = len == 0

abbrev pub is_patch_off_page : Patch → Bool
is_patch_off_page (Bytes w) = is_off_page w
is_patch_off_page (Fill offset len byte) = nat_lt page_len (offset + len)

-- the bytes that a patch brings; a fill brings none
abbrev pub bytes_in : Patch → ℕ
bytes_in (Bytes w) = length w.bytes
bytes_in (Fill offset len byte) = 0

-- the first fault of patches
abbrev pub patches_fault : List Patch → Option ShapeFault
patches_fault patches =
    if nat_lt max_patches (length patches) then Some ManyWrites
    else if list_any is_empty_patch patches then Some EmptyWrite
    else if list_any is_patch_off_page patches then Some OffPage
    else if nat_lt max_bytes (sum_by bytes_in patches) then Some ManyBytes
    else None

-- the first fault of a record, in the order in which faults are checked
abbrev pub record_fault : RecordData → Option ShapeFault
record_fault r =
    if r.number == 0 then Some NumberIsZero
    else if nat_le r.number r.back then Some BackNotBelow
    else if nat_lt r.back r.block_back then Some BlockBackAbove
    else option_or (patches_fault r.patches) (if nat_lt max_number r.number then Some TooLarge else None)

-- the first fault of a truncation
abbrev pub cut_fault : CutData → Option ShapeFault
cut_fault c =
    if c.epoch == 0 then Some EpochIsZero
    else if nat_lt c.hi c.lo then Some LoAboveHi
    else if nat_lt max_number c.hi then Some TooLarge
    else None

-- the first fault of an advance
abbrev pub advance_fault : AdvanceData → Option ShapeFault
advance_fault a =
    if a.point == 0 then Some NumberIsZero
    else if nat_lt max_number a.point then Some TooLarge
    else if a.reader == 0 then Some NoSuchReader
    else if nat_lt max_readers a.reader then Some NoSuchReader
    else None

-- the fault of a roster of so many readers
abbrev pub roster_fault : ℕ → Option ShapeFault
roster_fault readers =
    if readers == 0 then Some RosterSize
    else if nat_lt max_readers readers then Some RosterSize
    else None
