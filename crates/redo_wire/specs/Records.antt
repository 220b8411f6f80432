-- Records: which there are, and the one encoding of each.
use Rattle.std.specs.Prelude.{◌≡◌, ℕ, ◌<◌, ◌^◌, Bool, true, false, List, [], ◌∷◌, ◌++◌, length, None, ◌||◌, if◌then◌else◌}
use Rattle.std.specs.List.{list_any, flat_map}
use Rattle.redo_core.specs.Writes.{WriteData}
use Rattle.redo_core.specs.Data.{RecordData}
use Rattle.redo_core.specs.Shape.{record_fault}
use Rattle.redo_core.specs.declared.patches.Patch.{Patch}
use Rattle.redo_core.specs.declared.patches.Patch.TheVariants.{Bytes, Fill}
use Rattle.redo_wire.specs.Fields.{u16, u48}
use Rattle.redo_wire.specs.Tags.{record_tag, full_record_tag, bytes_kind, fill_kind}
use Rattle.redo_wire.specs.Forms.{form_bytes, byte_in}

-- the shape rules hold, and the fields are within their ranges
pub record IsWireRecord (r : RecordData) : Type 0 where
  pub epoch : r.epoch < 2 ^ 16
  pub page : r.page < 2 ^ 16
  pub shape : record_fault r ≡ None

-- ---- the form that a record has

abbrev pub is_fill : Patch → Bool
is_fill (Bytes w) = false
is_fill (Fill offset len byte) = true

-- It begins its page from zeros or fills a range, which the full form alone can encode; a record of writes alone has the plain form.
abbrev pub is_full_body : Bool → List Patch → Bool
is_full_body init patches = init || list_any is_fill patches

abbrev pub is_full : RecordData → Bool
is_full r = is_full_body r.init r.patches

-- ---- encoding

abbrev pub write_bytes : WriteData → List ℕ
write_bytes w = u16 w.offset ++ u16 (length w.bytes) ++ w.bytes

-- a patch; only the full form has the kind of a write, for the plain form has no fills
abbrev pub patch_bytes : Bool → Patch → List ℕ
patch_bytes full (Bytes w) = byte_in full bytes_kind ++ write_bytes w
patch_bytes full (Fill offset len byte) = (fill_kind ∷ []) ++ (u16 offset ++ u16 len ++ (byte ∷ []))

-- the flags of a record
abbrev pub flags_of : RecordData → ℕ
flags_of r = if r.init then 1 else 0

-- the fields up to the block backlink
abbrev pub head_bytes : RecordData → List ℕ
head_bytes r = u16 r.epoch ++ u48 r.number ++ u48 r.back ++ u16 r.page ++ u48 r.block_back

-- the flags, the count of the patches in one byte, and the patches
abbrev pub body_bytes : Bool → RecordData → List ℕ
body_bytes full r = byte_in full (flags_of r) ++ (length r.patches ∷ []) ++ flat_map (patch_bytes full) r.patches

-- a record after its tag
abbrev pub record_part_bytes : Bool → RecordData → List ℕ
record_part_bytes full r = head_bytes r ++ body_bytes full r

-- a record with its tag, as a fact and as an element of a list
abbrev pub record_bytes : RecordData → List ℕ
record_bytes r = form_bytes record_tag full_record_tag (is_full r) ++ record_part_bytes (is_full r) r
