-- What a redo record does to a page.
use Rattle.std.specs.Prelude.{ℕ, ◌+◌, List, [], ◌∷◌, ◌++◌, length, take, drop, replicate, if◌then◌else◌}
use Rattle.redo_core.specs.Data.{RecordData}
use Rattle.redo_core.specs.Shape.{page_len}
use Rattle.redo_core.specs.declared.patches.Patch.{Patch}
use Rattle.redo_core.specs.declared.patches.Patch.TheVariants.{Bytes, Fill}

-- the page with these bytes from an offset on
abbrev pub with_bytes : List ℕ → ℕ → List ℕ → List ℕ
with_bytes page offset bytes = take offset page ++ bytes ++ drop (offset + length bytes) page

-- the page with one patch: a write's bytes, or one byte repeated over a length
abbrev pub with_patch : List ℕ → Patch → List ℕ
with_patch page (Bytes w) = with_bytes page w.offset w.bytes
with_patch page (Fill offset len byte) = with_bytes page offset (replicate len byte)

-- the page after patches in listed order, later over earlier
abbrev pub with_patches : List ℕ → List Patch → List ℕ
with_patches page [] = page
with_patches page (p ∷ ps) = with_patches (with_patch page p) ps

-- the page before any write: zeros
unfoldable pub zeros : List ℕ
zeros = replicate page_len 0

-- the page after a record, which with `init` starts from zeros
abbrev pub write : List ℕ → RecordData → List ℕ
write page r = with_patches (if r.init then zeros else page) r.patches

-- the page after records, in order
abbrev pub after_records : List ℕ → List RecordData → List ℕ
after_records page [] = page
after_records page (r ∷ rs) = after_records (write page r) rs
