-- Stored images that rise by page.
use Rattle.std.specs.Prelude.{◌≡◌, ◌≤◌}
use Rattle.redo_core.specs.Order.{IsRising}
pub use Rattle.redo_core.specs.Store.{PageBefore, PutsImage}
use Rattle.segment_theorems.specs.State.{State, StoredImage, version_of}
use Rattle.segment_theorems.specs.Shedding.{CommitsImage}

-- An image that is inserted among the stored ones is committed.
abbrev pub PutCommits : Type 0
PutCommits =
    (old new : State) (image : StoredImage)
    → IsRising PageBefore old.store.images → PutsImage old.store.images image new.store.images → new.store.floor ≡ old.store.floor
    → new.book ≡ old.book → new.held ≡ old.held → new.base ≡ old.base → version_of old.store image.page ≤ image.version
    → CommitsImage old image.page image.version image.bytes new
