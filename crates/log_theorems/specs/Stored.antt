-- Stored images that rise by page.
use Rattle.std.specs.Prelude.{◌≡◌, ◌≢◌, ℕ}
use Rattle.std.specs.List.{Contains}
use Rattle.redo_core.specs.Order.{IsRising}
use Rattle.redo_core.specs.Writing.{zeros}
use Rattle.redo_core.specs.Store.{Store, StoredImage, PageBefore, version_of, image_of}

-- A page's version and image are those of its stored image; where it has none they are the default version and zeros.
abbrev pub StoredImages : Type 0
StoredImages =
    (store : Store) → IsRising PageBefore store.images
    → ((i : StoredImage) → Contains store.images i → (version_of store i.page ≡ i.version) × (image_of store i.page ≡ i.bytes))
    × ((page : ℕ) → ((i : StoredImage) → Contains store.images i → i.page ≢ page) → (version_of store page ≡ store.floor) × (image_of store page ≡ zeros))
