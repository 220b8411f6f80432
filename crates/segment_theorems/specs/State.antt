-- What a segment stores.
use Rattle.std.specs.Prelude.{◌≡◌, ℕ, List, [], replicate}
use Rattle.redo_core.specs.Data.{RecordData}
use Rattle.redo_core.specs.Roster.{least}
use Rattle.redo_core.specs.Book.{BookData, book_of}
pub use Rattle.redo_core.specs.Store.{StoredImage, Store, image_in}
unfoldable pub use Rattle.redo_core.specs.Store.{version_of, image_of}

-- the book of truncations and advances, the stored records, the base point and the images
pub record State : Type 0 where
  pub book : BookData
  pub held : List RecordData
  pub base : ℕ
  pub store : Store

abbrev pub state_of : BookData → List RecordData → ℕ → Store → State
state_of book held base store = record { book = book; held = held; base = base; store = store }

-- the minimum read point
abbrev pub min_of : State → ℕ
min_of s = least s.book.points

-- nothing is stored, for a roster of so many readers
abbrev pub empty_state : ℕ → State
empty_state roster = state_of (book_of [] 0 (replicate roster 0) []) [] 0 (record { images = []; floor = 0 })

-- base point and images are the same
pub record SameBase (old new : State) : Type 0 where
  pub base : new.base ≡ old.base
  pub store : new.store ≡ old.store
