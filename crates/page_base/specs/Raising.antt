-- How the image of one page changes.
use Rattle.std.specs.Prelude.{◌≡◌, ◌≢◌, ℕ, ◌<◌, ◌≤◌, List}
use Rattle.redo_core.specs.Store.{Store, version_of, image_of, PutsImage}
use Rattle.page_base.specs.Stored.{stored}

-- the page has the same version and image
abbrev pub SamePage : Store → Store → ℕ → Type 0
SamePage old new page = (version_of new page ≡ version_of old page) × (image_of new page ≡ image_of old page)

-- the page has the image at the version, and each other page what it had; the stored images are those, and no more
pub record SetsImage (old : Store) (page version : ℕ) (image : List ℕ) (new : Store) : Type 0 where
  pub version_is : version_of new page ≡ version
  pub image_is : image_of new page ≡ image
  pub others : (other : ℕ) → other ≢ page → SamePage old new other
  pub floor : new.floor ≡ old.floor
  pub stored_as : PutsImage old.images (stored page version image) new.images

-- an image of a version above the page's own replaces it; any other changes nothing
pub record Raises (old : Store) (page version : ℕ) (image : List ℕ) (new : Store) : Type 0 where
  pub lower : version ≤ version_of old page → new ≡ old
  pub higher : version_of old page < version → SetsImage old page version image new
