-- Images of pages in messages.
use Rattle.std.specs.Prelude.{ℕ, List}
use Rattle.redo_core.specs.Meaning.{ImageData}

-- the image of a page's number and its bytes
abbrev pub image_of : ℕ → List ℕ → ImageData
image_of page bytes = record { page = page; bytes = bytes }
