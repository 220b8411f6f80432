-- What a join of two segments promises.
use Rattle.std.specs.Prelude.{◌≡◌, ◌≢◌, ℕ, ◌<◌, ◌≤◌, ◌⊎◌, List, ◌++◌}
use Rattle.std.specs.List.{Contains}
use Rattle.redo_core.specs.Data.{RecordData}
use Rattle.redo_core.specs.Sound.{IsSound}
use Rattle.redo_core.specs.Standing.{IsDead}
use Rattle.redo_core.specs.declared.facts.Fact.{Fact}
use Rattle.redo_core.specs.Book.{roster_of}
use Rattle.page_base.specs.Raising.{SamePage}
use Rattle.segment_theorems.specs.State.{State, version_of}
use Rattle.segment_theorems.specs.Means.{Means, Matters, IsInImage}
use Rattle.segment_theorems.specs.HasMeaning.{HasAnchor, IsKeptBy}
use Rattle.segment_theorems.specs.Joining.{JoinsBooks}
use Rattle.segment_core.specs.Refusing.{HoldsOther}
use Rattle.segment_core.specs.declared.answers.Refusal.{Refusal}
use Rattle.segment_core.specs.declared.answers.Refusal.TheVariants.{OtherRoster}
use Rattle.segment_core.specs.Exported.{AreExported}
use Rattle.segment_join.specs.Holding.{InOtherImage}
use Rattle.segment_core.specs.InOrder.{TakesEach, RefusesOne}

-- Inside one sound log: whatever parts of it the two mean, the new state means their union.
abbrev pub MeansUnion : State → State → State → Type 0
MeansUnion old other new =
    (roster : ℕ) (log F G : List Fact) → IsSound roster log → Means roster log F old → Means roster log G other → Means roster log (F ++ G) new

-- the two mean parts of one sound log
abbrev pub AreOfOneLog : State → State → Type 0
AreOfOneLog s t = (roster : ℕ) × (log F G : List Fact) × IsSound roster log × Means roster log F s × Means roster log G t

-- the other stores a record that is not dead in the new view, and keeps it, or has it in no image
abbrev pub IsBroughtIn : State → State → RecordData → Type 0
IsBroughtIn other new r =
    Contains other.held r × (IsDead new.book.cuts new.book.complete r.epoch r.number → ⊥)
    × (((anchor : ℕ) × HasAnchor other anchor × IsKeptBy other anchor r) ⊎ (InOtherImage new other r → ⊥))

-- What the two know together, for arbitrary facts. The segment keeps its own records; one of the other that is not dead is stored, or its
-- page's image has it, or another one is under its key in the segment; no other record comes in. A page takes the other's image
-- only where that is newer.
pub record JoinsInto (old other new : State) : Type 0 where
  pub book : JoinsBooks old.book other.book new.book
  pub base : ((new.base ≡ old.base) ⊎ (new.base ≡ other.base)) × (old.base ≤ new.base) × (other.base ≤ new.base)
  pub own : (r : RecordData) → Contains old.held r → Contains new.held r
  pub others : (r : RecordData) → Contains other.held r → Matters new.book.cuts new.book.complete r
      → Contains new.held r ⊎ (IsInImage new r ⊎ HoldsOther old r)
  pub of_both : (r : RecordData) → Contains new.held r → Contains old.held r ⊎ IsBroughtIn other new r
  pub images : (page : ℕ) → SamePage old.store new.store page
      ⊎ ((version_of old.store page < version_of new.store page) × SamePage other.store new.store page)
  pub newest : (page : ℕ) → version_of other.store page ≤ version_of new.store page

-- of one roster, and each fact that the other exports is taken in order
pub record TakesTold (old other : State) : Type 0 where
  pub one_roster : roster_of old.book ≡ roster_of other.book
  pub facts : List Fact
  pub told : AreExported other facts
  pub taken : State
  pub takes : TakesEach old facts taken

-- the two are of two rosters, or else one of the facts that the other exports is refused
abbrev pub RefusesJoin : State → State → Refusal → Type 0
RefusesJoin old other why =
    ((roster_of old.book ≢ roster_of other.book) × (why ≡ OtherRoster (roster_of old.book) (roster_of other.book)))
    ⊎ ((roster_of old.book ≡ roster_of other.book) × (facts : List Fact) × AreExported other facts × RefusesOne old facts why)
