-- Base images as contracts see them.
use Rattle.std.specs.Prelude.{◌≡◌, ℕ, ◌≤◌, List, Option, Some, None}
use Rattle.std.specs.List.{Contains}
use Rattle.redo_core.specs.Order.{IsRising}
use Rattle.redo_core.specs.Writing.{zeros}
use Rattle.redo_core.specs.Store.{Store, StoredImage, version_of, image_of, PageBefore}

abbrev pub stored : ℕ → ℕ → List ℕ → StoredImage
stored page version bytes = record { page = page; version = version; bytes = bytes }

abbrev pub store_of : List StoredImage → ℕ → Store
store_of images floor = record { images = images; floor = floor }

-- the images rise by page, and none is of a version below the default one
pub record IsBase (images : List StoredImage) (floor : ℕ) : Type 0 where
  pub rising : IsRising PageBefore images
  pub high : (i : StoredImage) → Contains images i → floor ≤ i.version

abbrev pub IsStored : Store → Type 0
IsStored store = IsBase store.images store.floor

-- the image that a page has in a store, or none where it is zeros at the default version
abbrev pub IsStoredImage : Store → ℕ → Option StoredImage → Type 0
IsStoredImage store page None = (version_of store page ≡ store.floor) × (image_of store page ≡ zeros)
IsStoredImage store page (Some i) = Contains store.images i × (i.page ≡ page) × (version_of store page ≡ i.version) × (image_of store page ≡ i.bytes)
