-- Which records of a volume keep to its layout of pages, and what page 0 says.
use Rattle.std.specs.Prelude.{◌≡◌, ℕ, ◌+◌, ◌^◌, ◌<◌, List, [], ◌∷◌, ◌++◌, slice_index}
use Rattle.std.specs.Int.{from_be_bytes, w16}
use Rattle.redo_core.specs.Data.{RecordData}
use Rattle.redo_core.specs.Shape.{epoch_count}
use Rattle.redo_core.specs.PageAt.{IsPageAt}
use Rattle.redo_core.specs.declared.facts.Fact.{Fact}
use Rattle.redo_core.specs.declared.patches.Patch.{Patch}
use Rattle.redo_writer.specs.Layout.{bytes_number, number_of, number_patch, commit_patch}

-- ---- the end of a page
-- the last patch of the record puts its own number there
abbrev pub LeavesNumber : RecordData → Type 0
LeavesNumber r = (before : List Patch) × (r.patches ≡ before ++ number_patch r.number ∷ [])

-- the number at the end of a page, as it is read at a point
abbrev pub IsPageTop : List Fact → ℕ → ℕ → ℕ → ℕ → Type 0
IsPageTop facts k page point top = (image : List ℕ) × IsPageAt facts k page point image × (top ≡ number_of image)

-- ---- page 0
-- the generation of the engine that has written page 0, and the epoch that it has written in
abbrev pub generation_of : List ℕ → ℕ
generation_of image = bytes_number image 0

abbrev pub epoch_of_page : List ℕ → ℕ
epoch_of_page image = from_be_bytes w16 (slice_index image 8 ∷ slice_index image (8 + 1) ∷ [])

-- the record ends a mini-transaction of an engine of the generation
pub record IsCommitRecord (generation : ℕ) (r : RecordData) : Type 0 where
  pub epoch_fits : r.epoch < epoch_count
  pub generation_fits : generation < 2 ^ 64
  pub header : List ℕ
  pub patches : r.patches ≡ commit_patch generation r.epoch header ∷ number_patch r.number ∷ []
