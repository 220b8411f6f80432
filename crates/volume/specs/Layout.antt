-- Which part of a page is the user's, and the header in page 0.
use Rattle.std.specs.Prelude.{◌≡◌, ℕ, ◌+◌, ◌≤◌, List, [], ◌∷◌, length, slice_index, slice_range, min}
use Rattle.std.specs.Int.{from_be_bytes, w16}
use Rattle.redo_core.specs.declared.patches.Patch.{Patch}
use Rattle.redo_core.specs.declared.patches.Patch.TheVariants.{Bytes, Fill}

-- the patch is within the part of a page that is its user's
abbrev pub IsUsers : Patch → Type 0
IsUsers (Bytes write) = write.offset + length write.bytes ≤ 4088
IsUsers (Fill offset len byte) = offset + len ≤ 4088

-- the header in page 0, of up to 1,024 bytes, whose length the page has
abbrev pub IsHeaderOf : List ℕ → List ℕ → Type 0
IsHeaderOf image header =
    let len = min (from_be_bytes w16 (slice_index image 10 ∷ slice_index image 11 ∷ [])) 1024 in header ≡ slice_range image 12 (12 + len)
