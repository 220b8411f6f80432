-- What a discard and a tidy leave.
use Rattle.std.specs.Prelude.{◌≡◌, ◌≢◌, ℕ, ◌≤◌, ◌⊎◌, ◌↔◌, max, List, Result, Err}
use Rattle.std.specs.List.{Contains}
use Rattle.redo_core.specs.Data.{RecordData}
use Rattle.redo_core.specs.Standing.{IsAlive}
use Rattle.redo_core.specs.Position.{Position}
use Rattle.redo_core.specs.Sound.{IsSound}
use Rattle.redo_core.specs.Meaning.{IsKept}
use Rattle.redo_core.specs.declared.facts.Fact.{Fact}
use Rattle.epoch_book.specs.Book.{BookData}
use Rattle.hot_log.specs.Removing.{IsFolded}
use Rattle.segment_theorems.specs.State.{State, Store, StoredImage, state_of, version_of, image_of}
use Rattle.segment_theorems.specs.Shows.{Shows}
use Rattle.page_base.specs.Raising.{SamePage}
use Rattle.segment_theorems.specs.Means.{MeansAt, Means}
use Rattle.segment_theorems.specs.HasMeaning.{HasAnchor, IsKeptBy}
use Rattle.segment_theorems.specs.Promises.{KeepsMeaning}
use Rattle.segment_core.specs.Folding.{BreaksBelowAnchor}
use Rattle.segment_core.specs.declared.answers.ReadFault.{ReadFault}
use Rattle.segment_core.specs.declared.answers.ReadFault.TheVariants.{BrokenBlockChain, Memory}

-- an alive record at or below a base point that its page's image has
abbrev pub IsFoldedBelow : State → ℕ → RecordData → Type 0
IsFoldedBelow s base r = IsAlive s.book.cuts s.book.complete r.epoch r.number × (r.number ≤ base) × (r.number ≤ version_of s.store r.page)

-- of the records just those at or below a point that one of the images has are gone
abbrev pub RemovesInImages : BookData → ℕ → List StoredImage → List RecordData → List RecordData → Type 0
RemovesInImages book point images old new =
    (r : RecordData) → Contains new r ↔ (Contains old r × ((i : StoredImage) → Contains images i → IsFolded book i.page i.version point r → ⊥))

-- the base point is the anchor, and just the records that are folded then are gone
pub record DiscardsJust (old new : State) : Type 0 where
  pub book : new.book ≡ old.book
  pub base : HasAnchor old new.base
  pub held : (r : RecordData) → Contains new.held r ↔ (Contains old.held r × (IsFoldedBelow old new.base r → ⊥))
  pub store : new.store ≡ old.store

-- the state with other base images
abbrev pub with_store : State → Store → State
with_store s store = state_of s.book s.held s.base store

-- Each page of a stored record shows what the state itself shows at the anchor, at that version unless its own is higher. Each other
-- page stays, and no image is stored but for those pages.
pub record FoldsImages (s : State) (anchor : ℕ) (store : Store) : Type 0 where
  pub versions : (r : RecordData) → Contains s.held r → version_of store r.page ≡ max (version_of s.store r.page) anchor
  pub shown : (r : RecordData) → Contains s.held r → Shows s r.page anchor (image_of store r.page)
  pub others : (page : ℕ) → ((r : RecordData) → Contains s.held r → r.page ≢ page) → SamePage s.store store page
  pub listed : (i : StoredImage) → Contains store.images i → Contains s.store.images i ⊎ ((r : RecordData) × Contains s.held r × (r.page ≡ i.page))
  pub floor : store.floor ≡ s.store.floor

-- base images with which the state means the same, where the pages of stored records are folded to the anchor
pub record FoldsAll (s : State) (store : Store) : Type 0 where
  pub keeps : KeepsMeaning s (with_store s store)
  pub images : (anchor : ℕ) → HasAnchor s anchor → FoldsImages s anchor store

-- the base point is the anchor, to which the pages of stored records are folded, and just the kept records are stored
pub record Tidies (old new : State) : Type 0 where
  pub book : new.book ≡ old.book
  pub base : HasAnchor old new.base
  pub images : FoldsImages old new.base new.store
  pub held : (r : RecordData) → Contains new.held r ↔ IsKeptBy old new.base r

-- they are the kept records of the facts
abbrev pub HoldsJustKept : State → State → Type 0
HoldsJustKept old new =
    (roster : ℕ) (log facts : List Fact) (p : Position) (r : RecordData)
    → IsSound roster log → MeansAt roster log facts p old → Contains new.held r ↔ IsKept facts p r

-- the state means a part of some sound log
abbrev pub IsSoundState : State → Type 0
IsSoundState s = (roster : ℕ) × (log facts : List Fact) × IsSound roster log × Means roster log facts s

-- no block chain is broken at or below the anchor
abbrev pub IsWhole : State → Type 0
IsWhole s = (page n : ℕ) → BreaksBelowAnchor s page n → ⊥

-- of the pages whose block chain is broken there, this is the least, and its chain is broken at the record n
pub record IsFirstBreak (s : State) (page n : ℕ) : Type 0 where
  pub breaks : BreaksBelowAnchor s page n
  pub least : (other m : ℕ) → BreaksBelowAnchor s other m → page ≤ other

-- a broken block chain is reported exactly where there is one, and then of the least page, for arbitrary facts
abbrev pub ReportsFirstBreak : State → Result Unit ReadFault → Type 0
ReportsFirstBreak s result =
    (page n : ℕ)
    → (result ≡ Err (BrokenBlockChain page n)) ↔ IsFirstBreak s page n

-- why a tidy is refused: the first broken block chain, or, with none broken, lack of memory
abbrev pub RefusesTidy : State → ReadFault → Type 0
RefusesTidy s (BrokenBlockChain page n) = IsFirstBreak s page n
RefusesTidy s Memory = IsWhole s
RefusesTidy s fault = ⊥
