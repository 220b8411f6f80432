-- The theorems of states: what a state determines of the facts that it means, and that its steps do what the calls promise.
use Rattle.std.specs.Prelude.{◌≡◌, ℕ, ◌<◌, ◌≤◌, ◌↔◌, List, []}
use Rattle.std.specs.List.{Contains}
use Rattle.redo_core.specs.Data.{RecordData, CutData, AdvanceData}
use Rattle.redo_core.specs.Linked.{IsLinked}
use Rattle.redo_core.specs.Position.{Position}
use Rattle.redo_core.specs.PageAt.{IsPageAt}
use Rattle.redo_core.specs.Sound.{IsSound}
use Rattle.redo_core.specs.Meaning.{Meaning, IsMeaning, IsKept}
use Rattle.redo_core.specs.declared.facts.Fact.{Fact}
use Rattle.redo_core.specs.declared.facts.Fact.TheVariants.{Record, Cut, Advance}
use Rattle.segment_theorems.specs.State.{State, empty_state}
use Rattle.segment_theorems.specs.Means.{MeansAt, Means}
use Rattle.segment_theorems.specs.Shows.{IsApplied, Shows, HasBlockBelow}
use Rattle.segment_theorems.specs.HasMeaning.{IsLinkedIn, HasAnchor, HasPosition, IsKeptBy, HasMeaning}
use Rattle.segment_theorems.specs.Promises.{TakesFact, KeepsMeaning, LeavesMeaning, ChangesMeaning, IsFinalPage, KeepsMeaningWith}
use Rattle.segment_theorems.specs.Learning.{StoresCut, StoresAdvance, PutsRecord}
use Rattle.segment_theorems.specs.Shedding.{CommitsImage, RemovesFolded, RemovesDead}
use Rattle.segment_theorems.specs.Known.{IsKnown, Conflicts}

-- An empty state means no facts.
abbrev pub EmptyMeansNone : Type 0
EmptyMeansNone = (roster : ℕ) (log : List Fact) → Means roster log [] (empty_state roster)

-- From the base point on the state's links are the facts'.
abbrev pub SameLinks : Type 0
SameLinks =
    (roster : ℕ) (log facts : List Fact) (p : Position) (s : State) (n : ℕ)
    → IsSound roster log → MeansAt roster log facts p s
    → IsLinkedIn s n ↔ (IsLinked facts p.epoch n × (s.base ≤ n))

-- The position that the state computes is that of the facts.
abbrev pub SamePosition : Type 0
SamePosition =
    (roster : ℕ) (log facts : List Fact) (p q : Position) (s : State)
    → IsSound roster log → MeansAt roster log facts p s → HasPosition s q ↔ (q ≡ p)

-- Its complete epoch and anchor are theirs.
abbrev pub SameAnchor : Type 0
SameAnchor =
    (roster : ℕ) (log facts : List Fact) (p : Position) (s : State) (anchor : ℕ)
    → IsSound roster log → MeansAt roster log facts p s → HasAnchor s anchor → (s.book.complete ≡ p.epoch) × (anchor ≡ p.anchor)

-- A page that the state yields, from its anchor to its complete point, is the facts'.
abbrev pub TruePages : Type 0
TruePages =
    (roster : ℕ) (log facts : List Fact) (p : Position) (s : State) (page q : ℕ) (image : List ℕ)
    → IsSound roster log → MeansAt roster log facts p s → p.anchor ≤ q → q ≤ p.complete
    → Shows s page q image ↔ IsPageAt facts p.epoch page q image

-- No block chain is broken, and each contains every record that is applied to its page.
abbrev pub WholeBlockChains : Type 0
WholeBlockChains =
    (roster : ℕ) (log facts : List Fact) (p : Position) (s : State) (page q : ℕ) (r : RecordData)
    → IsSound roster log → MeansAt roster log facts p s → q ≤ p.complete → IsApplied s page q r
    → HasBlockBelow s page q r × ((other : RecordData) → IsApplied s page q other → other.number < r.number → other.number ≤ r.block_back)

-- The state's meaning is that of the facts.
abbrev pub SameMeaning : Type 0
SameMeaning =
    (roster : ℕ) (log facts : List Fact) (s : State) (m : Meaning)
    → IsSound roster log → Means roster log facts s → HasMeaning s m ↔ IsMeaning roster facts m

-- The records that it keeps are those that the facts keep.
abbrev pub SameKept : Type 0
SameKept =
    (roster : ℕ) (log facts : List Fact) (p : Position) (s : State) (r : RecordData)
    → IsSound roster log → MeansAt roster log facts p s → IsKeptBy s p.anchor r ↔ IsKept facts p r

-- A fact of the log leaves the meaning unchanged exactly where the state knows it.
abbrev pub UnchangedExactly : Type 0
UnchangedExactly =
    (s : State) (fact : Fact)
    → (IsKnown s fact → LeavesMeaning s fact) × ((IsKnown s fact → ⊥) → ChangesMeaning s fact)

-- A known fact needs no step.
abbrev pub TakesKnown : Type 0
TakesKnown = (s : State) (fact : Fact) → IsKnown s fact → TakesFact s fact s

-- No fact of the log is refused.
abbrev pub NoConflict : Type 0
NoConflict =
    (roster : ℕ) (log facts : List Fact) (s : State) (fact : Fact)
    → IsSound roster log → Contains log fact → Means roster log facts s → Conflicts s fact → ⊥

abbrev pub TakesRecord : Type 0
TakesRecord = (old new : State) (r : RecordData) → PutsRecord old r new → TakesFact old (Record r) new

abbrev pub TakesCut : Type 0
TakesCut = (old new : State) (c : CutData) → StoresCut old c new → TakesFact old (Cut c) new

abbrev pub TakesAdvance : Type 0
TakesAdvance = (old new : State) (a : AdvanceData) → StoresAdvance old a new → TakesFact old (Advance a) new

-- A page that is final in the log is the page of all facts of the log whose anchor has reached its version.
abbrev pub FinalPages : Type 0
FinalPages =
    (roster : ℕ) (log facts : List Fact) (p : Position) (s : State) (page version : ℕ) (image : List ℕ)
    → IsSound roster log → MeansAt roster log facts p s → version ≤ p.anchor → IsFinalPage roster log page version image
    → IsPageAt facts p.epoch page version image

-- The page that a state yields at its anchor is final.
abbrev pub AnchorPageIsFinal : Type 0
AnchorPageIsFinal =
    (roster : ℕ) (log facts : List Fact) (s : State) (anchor page : ℕ) (image : List ℕ)
    → IsSound roster log → Means roster log facts s → HasAnchor s anchor → Shows s page anchor image → IsFinalPage roster log page anchor image

-- A committed image keeps the meaning where its version is not above the anchor.
abbrev pub CommitKeeps : Type 0
CommitKeeps =
    (old new : State) (anchor page version : ℕ) (image : List ℕ)
    → HasAnchor old anchor → version ≤ anchor → CommitsImage old page version image new
    → KeepsMeaningWith old page version image new

-- So does the state's own page at its anchor.
abbrev pub FoldKeeps : Type 0
FoldKeeps =
    (old new : State) (anchor page : ℕ) (image : List ℕ)
    → HasAnchor old anchor → Shows old page anchor image → CommitsImage old page anchor image new
    → KeepsMeaning old new

abbrev pub DiscardKeeps : Type 0
DiscardKeeps = (old new : State) → RemovesFolded old new → KeepsMeaning old new

abbrev pub RemovalKeeps : Type 0
RemovalKeeps = (old new : State) → RemovesDead old new → KeepsMeaning old new
