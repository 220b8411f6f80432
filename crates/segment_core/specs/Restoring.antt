-- A state put together from its parts.
use Rattle.std.specs.Prelude.{◌≡◌, ℕ, ◌⊎◌, ◌↔◌, List, [], ◌∷◌}
use Rattle.std.specs.List.{Contains}
use Rattle.redo_core.specs.Data.{RecordData}
use Rattle.redo_core.specs.Book.{BookData}
use Rattle.page_base.specs.Adopting.{first_given}
use Rattle.segment_theorems.specs.State.{State, Store, version_of, image_of}

-- no image is stored, and each page is zeros at version 0
abbrev pub no_images : Store
no_images = record { images = []; floor = 0 }

-- the state has the book and the base point, stores just the records, and each page is the first that is given for it, or zeros, there
pub record IsMadeOf (book : BookData) (records : List RecordData) (base : ℕ) (given : List (ℕ × List ℕ)) (s : State) : Type 0 where
  pub book_is : s.book ≡ book
  pub held : (r : RecordData) → Contains s.held r ↔ Contains records r
  pub base_is : s.base ≡ base
  pub versions : (page : ℕ) → version_of s.store page ≡ base
  pub images : (page : ℕ) → image_of s.store page ≡ first_given given page

-- one more record is stored
pub record Gains (old : List RecordData) (r : RecordData) (new : List RecordData) : Type 0 where
  pub members : (x : RecordData) → Contains new x ↔ (Contains old x ⊎ (x ≡ r))

-- each record joins the stored ones, in order
abbrev pub GainsEach : List RecordData → List RecordData → List RecordData → Type 0
GainsEach old [] new = new ≡ old
GainsEach old (r ∷ rs) new = (between : List RecordData) × Gains old r between × GainsEach between rs new

-- gaining the rest from the new records on gives what gaining all from the old ones does
abbrev pub GainsRest : List RecordData → List RecordData → List RecordData → List RecordData → Type 0
GainsRest old given new rest = (last : List RecordData) → GainsEach new rest last → GainsEach old given last
