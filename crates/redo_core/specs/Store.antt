-- The base images of pages, as they are stored.
use Rattle.std.specs.Prelude.{◌≡◌, ◌≢◌, ℕ, ◌<◌, ◌⊎◌, ◌↔◌, List, [], ◌∷◌, ◌==◌, if◌then◌else◌}
use Rattle.std.specs.List.{Contains}
use Rattle.redo_core.specs.Order.{IsRising}
use Rattle.redo_core.specs.Writing.{zeros}

-- an image of a page, and its version: the point of the log whose state it is
pub record StoredImage : Type 0 where
  pub page : ℕ
  pub version : ℕ
  pub bytes : List ℕ

-- the stored images; a page without one is zeros, of the default version `floor`
pub record Store : Type 0 where
  pub images : List StoredImage
  pub floor : ℕ

abbrev pub image_in : List StoredImage → ℕ → ℕ → StoredImage
image_in [] floor page = record { page = page; version = floor; bytes = zeros }
image_in (i ∷ is) floor page = if i.page == page then i else image_in is floor page

unfoldable pub version_of : Store → ℕ → ℕ
version_of store page = (image_in store.images store.floor page).version

unfoldable pub image_of : Store → ℕ → List ℕ
image_of store page = (image_in store.images store.floor page).bytes

-- images by page
abbrev pub PageBefore : StoredImage → StoredImage → Type 0
PageBefore i j = i.page < j.page

-- the image replaces its page's, or is a new one
pub record PutsImage (old : List StoredImage) (image : StoredImage) (new : List StoredImage) : Type 0 where
  pub rising : IsRising PageBefore new
  pub members : (i : StoredImage) → Contains new i ↔ ((i ≡ image) ⊎ (Contains old i × (i.page ≢ image.page)))
