-- Where the block chain of a page is broken.
use Rattle.std.specs.Prelude.{◌≡◌, ℕ, false, ◌<◌, ◌≤◌, ◌⊎◌, ◌↔◌, List, Result, Err}
use Rattle.std.specs.List.{Contains}
use Rattle.redo_core.specs.Data.{RecordData}
use Rattle.redo_core.specs.Standing.{IsAlive}
use Rattle.segment_theorems.specs.State.{State, min_of, version_of}
use Rattle.segment_theorems.specs.HasMeaning.{IsLinkedIn, HasComplete}
use Rattle.segment_core.specs.declared.answers.ReadFault.{ReadFault}
use Rattle.segment_core.specs.declared.answers.ReadFault.TheVariants.{BrokenBlockChain}

-- n is known to be linked: nothing is missing up to the base point, and from there on the stored records link it
abbrev pub IsKnownLinked : State → ℕ → Type 0
IsKnownLinked s n = (n ≤ s.base) ⊎ IsLinkedIn s n

-- r is a linked record of the page, with an LSN at most q
abbrev pub IsLinkedOf : State → ℕ → ℕ → RecordData → Type 0
IsLinkedOf s page q r = Contains s.held r × IsAlive s.book.cuts s.book.complete r.epoch r.number × IsKnownLinked s r.number × (r.page ≡ page) × (r.number ≤ q)

-- the records on the walk down the block backlinks, from a first one to the version of the page's image, or to a record with `init`
pub data OnBlockChain (s : State) (page q : ℕ) (first : RecordData) : RecordData → Type 0 where
  start : OnBlockChain s page q first first
  down : (r below : RecordData) → OnBlockChain s page q first r → r.init ≡ false → version_of s.store page < r.block_back → IsLinkedOf s page q below
      → below.number ≡ r.block_back → OnBlockChain s page q first below

-- on that walk, n is the LSN of a record without `init` whose block backlink leads nowhere
pub record BreaksFrom (s : State) (page q : ℕ) (first : RecordData) (n : ℕ) : Type 0 where
  pub at : RecordData
  pub on : OnBlockChain s page q first at
  pub follows : at.init ≡ false
  pub above : version_of s.store page < at.block_back
  pub nowhere : (below : RecordData) → IsLinkedOf s page q below → below.number ≡ at.block_back → ⊥
  pub number : at.number ≡ n

-- the walk begins at the last linked record of the page up to q
pub record BreaksAt (s : State) (page q n : ℕ) : Type 0 where
  pub first : RecordData
  pub linked : IsLinkedOf s page q first
  pub greatest : (other : RecordData) → IsLinkedOf s page q other → other.number ≤ first.number
  pub breaks : BreaksFrom s page q first n

-- the point q is one at which the state is read: from its minimum read point to its complete point
abbrev pub IsReadable : State → ℕ → Type 0
IsReadable s q = (min_of s ≤ q) × ((complete : ℕ) × HasComplete s complete × (q ≤ complete))

-- a broken block chain is reported exactly where a readable point has one, for arbitrary facts
abbrev pub ReportsBreak : State → ℕ → ℕ → Result (List ℕ) ReadFault → Type 0
ReportsBreak s page q result =
    (g n : ℕ)
    → (result ≡ Err (BrokenBlockChain g n)) ↔ ((g ≡ page) × IsReadable s q × BreaksAt s page q n)

-- each alive record with an LSN up to n is known to be linked
abbrev pub IsLinkedUpTo : State → ℕ → Type 0
IsLinkedUpTo s n = (r : RecordData) → Contains s.held r → IsAlive s.book.cuts s.book.complete r.epoch r.number → r.number ≤ n → IsKnownLinked s r.number

-- of these records, each that does not begin its page from zeros, and whose block backlink is above a version, has it to one of them
abbrev pub IsChained : ℕ → List RecordData → Type 0
IsChained version xs =
    (r : RecordData) → Contains xs r → r.init ≡ false → version < r.block_back
    → (below : RecordData) × Contains xs below × (below.number ≡ r.block_back)
