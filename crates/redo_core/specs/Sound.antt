-- Which logs are sound: the five laws that a writer keeps.
use Rattle.std.specs.Prelude.{◌≡◌, ℕ, ◌<◌, ◌≤◌, not, ◌==◌, List, [], ◌∷◌, take, slice_get, Some, None}
use Rattle.std.specs.List.{Contains, filter}
use Rattle.redo_core.specs.Data.{RecordData, CutData}
use Rattle.redo_core.specs.Shape.{record_fault, cut_fault, advance_fault}
use Rattle.redo_core.specs.Sets.{records, cuts, advances}
use Rattle.redo_core.specs.Order.{IsGreatest}
use Rattle.redo_core.specs.CompleteEpoch.{HasCutsTo}
use Rattle.redo_core.specs.Standing.{IsAlive}
use Rattle.redo_core.specs.Roster.{IsRoster, IsReader}
use Rattle.redo_core.specs.Past.{ArePast}
use Rattle.redo_core.specs.declared.facts.Fact.{Fact}
use Rattle.redo_core.specs.declared.facts.Fact.TheVariants.{Record, Cut, Advance}

-- the first truncation of each epoch, which is the effective one
abbrev pub first_cuts : List CutData → List CutData
first_cuts [] = []
first_cuts (c ∷ cs) = c ∷ filter (λ d. not (d.epoch == c.epoch)) (first_cuts cs)

-- the effective truncations of a log
unfoldable pub counted : List Fact → List CutData
counted log = first_cuts (cuts log)

-- two records of one key, or two truncations of one epoch
abbrev pub SameKey : Fact → Fact → Type 0
SameKey (Record r) (Record s) = (r.epoch ≡ s.epoch) × (r.number ≡ s.number)
SameKey (Record r) (Cut c) = ⊥
SameKey (Record r) (Advance a) = ⊥
SameKey (Cut c) (Record r) = ⊥
SameKey (Cut c) (Cut d) = c.epoch ≡ d.epoch
SameKey (Cut c) (Advance a) = ⊥
SameKey (Advance a) (Record r) = ⊥
SameKey (Advance a) (Cut c) = ⊥
SameKey (Advance a) (Advance b) = ⊥

-- the fact is one that the types can represent
abbrev pub HasShape : Fact → Type 0
HasShape (Record r) = record_fault r ≡ None
HasShape (Cut c) = cut_fault c ≡ None
HasShape (Advance a) = advance_fault a ≡ None

-- n is below r's LSN, and is the LSN of a record with Only that is alive in the view of r's epoch
pub record IsAliveBelow (log : List Fact) (r : RecordData) (Only : RecordData → Type 0) (n : ℕ) : Type 0 where
  pub other : RecordData
  pub among : Contains (records log) other
  pub alive : IsAlive (counted log) r.epoch other.epoch other.number
  pub only : Only other
  pub number : other.number ≡ n
  pub below : n < r.number

-- Law 1: an earlier fact with the same key is the same fact.
abbrev pub Law1 : List Fact → Fact → Type 0
Law1 earlier fact = (f : Fact) → Contains earlier f → SameKey f fact → f ≡ fact

-- Law 2: a record's epoch has begun, and its LSN is above the epoch's hi.
abbrev pub Law2 : List Fact → Fact → Type 0
Law2 log (Record r) = HasCutsTo (counted log) r.epoch × ((c : CutData) → Contains (counted log) c → c.epoch ≡ r.epoch → c.hi < r.number)
Law2 log (Cut c) = Unit {0}
Law2 log (Advance a) = Unit {0}

-- Law 3: the segment backlink is the greatest LSN below the record's own that is alive in its epoch's view, or 0.
abbrev pub Law3 : List Fact → Fact → Type 0
Law3 log (Record r) = IsGreatest (IsAliveBelow log r (λ s. Unit {0})) r.back
Law3 log (Cut c) = Unit {0}
Law3 log (Advance a) = Unit {0}

-- Law 4: the block backlink is the same for the records of its page.
abbrev pub Law4 : List Fact → Fact → Type 0
Law4 log (Record r) = IsGreatest (IsAliveBelow log r (λ s. s.page ≡ r.page)) r.block_back
Law4 log (Cut c) = Unit {0}
Law4 log (Advance a) = Unit {0}

-- Law 5: an advance's reader is of the roster, its epoch has begun, and no later truncation that all readers are past has its lo
-- below the point.
abbrev pub Law5 : ℕ → List Fact → Fact → Type 0
Law5 roster log (Record r) = Unit {0}
Law5 roster log (Cut c) = Unit {0}
Law5 roster log (Advance a) =
    IsReader roster a.reader × HasCutsTo (counted log) a.epoch
    × ((c : CutData) → Contains (counted log) c → a.epoch < c.epoch → ArePast roster (advances log) c → a.point ≤ c.lo)

-- the fact at an index (from 0) keeps the laws
pub record KeepsLaws (roster : ℕ) (log : List Fact) (place : ℕ) (fact : Fact) : Type 0 where
  pub shape : HasShape fact
  pub law1 : Law1 (take place log) fact
  pub law2 : Law2 log fact
  pub law3 : Law3 log fact
  pub law4 : Law4 log fact
  pub law5 : Law5 roster log fact

-- a log of a roster is sound where the fact at each index keeps the laws
pub record IsSound (roster : ℕ) (log : List Fact) : Type 0 where
  pub readers : IsRoster roster
  pub keeps : (place : ℕ) (fact : Fact) → slice_get log place ≡ Some fact → KeepsLaws roster log place fact
