-- The pages that a discard has to visit.
use Rattle.std.specs.Prelude.{◌≡◌, ℕ, ◌≤◌, ◌⊎◌, ◌↔◌, Bool, true, List, []}
use Rattle.std.specs.List.{Contains}
use Rattle.redo_core.specs.Data.{RecordData}
use Rattle.epoch_book.specs.Book.{BookData}
use Rattle.hot_log.specs.Alive.{IsHeldAlive}
use Rattle.hot_log.specs.Removing.{IsFolded}
use Rattle.segment_theorems.specs.State.{Store, version_of}

-- the pages that are listed, whether all pages are pending, and an LSN that no page's version is above
pub record PendingData : Type 0 where
  pub pages : List ℕ
  pub all : Bool
  pub top : ℕ

-- all pages are pending
abbrev pub all_due : ℕ → PendingData
all_due top = record { pages = []; all = true; top = top }

-- the page is pending
abbrev pub LooksAt : PendingData → ℕ → Type 0
LooksAt due page = (due.all ≡ true) ⊎ Contains due.pages page

-- Each page is pending whose image has a stored alive record, and no version is above the top.
pub record HasPending (book : BookData) (held : List RecordData) (store : Store) (due : PendingData) : Type 0 where
  pub listed : (r : RecordData) → IsHeldAlive book held r → r.number ≤ version_of store r.page → LooksAt due r.page
  pub top : (page : ℕ) → version_of store page ≤ due.top

-- the pages that were pending are, and the top has not fallen
pub record IsMoreDue (old new : PendingData) : Type 0 where
  pub keeps : (page : ℕ) → LooksAt old page → LooksAt new page
  pub top : old.top ≤ new.top

-- of the records just those at or below a point that the images of these pages have are gone
abbrev pub RemovesInPages : BookData → Store → ℕ → List ℕ → List RecordData → List RecordData → Type 0
RemovesInPages book store point pages old new =
    (r : RecordData) → Contains new r ↔ (Contains old r × ((page : ℕ) → Contains pages page → IsFolded book page (version_of store page) point r → ⊥))
