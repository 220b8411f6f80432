-- What each record of a volume leaves in its page: its number at the end, and in page 0 who has written it.
use Rattle.std.specs.Prelude.{ℕ, ◌+◌, List, [], ◌∷◌, ◌++◌, length, slice_index}
use Rattle.std.specs.Int.{to_be_bytes, from_be_bytes, w64, w16}
use Rattle.redo_core.specs.declared.patches.Patch.{Patch}
use Rattle.redo_core.specs.declared.patches.Patch.TheVariants.{Bytes}

-- the number in 8 bytes of a page, big-endian
abbrev pub bytes_number : List ℕ → ℕ → ℕ
bytes_number image place = from_be_bytes w64 (
    slice_index image place ∷ slice_index image (place + 1) ∷ slice_index image (place + 2) ∷ slice_index image (place + 3)
    ∷ slice_index image (place + 4) ∷ slice_index image (place + 5) ∷ slice_index image (place + 6) ∷ slice_index image (place + 7) ∷ [])

-- the number of the page's last record
abbrev pub number_of : List ℕ → ℕ
number_of image = bytes_number image 4088

-- the patch that puts the number of a record at the end of its page
abbrev pub number_patch : ℕ → Patch
number_patch number = Bytes (record { offset = 4088; bytes = to_be_bytes w64 number })

-- what a record of page 0 writes before its number: the engine's generation, its epoch, the length of its header, and the header
abbrev pub commit_patch : ℕ → ℕ → List ℕ → Patch
commit_patch generation epoch header = Bytes (record {
  offset = 0;
  bytes = ((to_be_bytes w64 generation ++ to_be_bytes w16 epoch) ++ to_be_bytes w16 (length header)) ++ header;
})
