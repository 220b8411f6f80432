-- What an absorbed delta does to a segment.
use Rattle.std.specs.Prelude.{◌≡◌, ◌≢◌, ℕ, ◌<◌, ◌≤◌, ◌⊎◌, List, ◌++◌, Result, Err, None, Some, max}
use Rattle.redo_core.specs.Book.{roster_of}
use Rattle.redo_core.specs.Meaning.{ImageData}
use Rattle.redo_core.specs.Position.{Position, IsPosition}
use Rattle.redo_core.specs.Sets.{IsPart}
use Rattle.redo_core.specs.Sound.{IsSound}
use Rattle.redo_core.specs.declared.facts.Fact.{Fact}
use Rattle.page_base.specs.Raising.{SamePage}
use Rattle.page_base.specs.Stored.{stored}
use Rattle.messages.specs.Summaries.{SummaryData}
use Rattle.messages.specs.Deltas.{DeltaData}
use Rattle.segment_theorems.specs.State.{State, StoredImage, version_of, image_of}
use Rattle.segment_theorems.specs.Means.{MeansAt, Means}
use Rattle.segment_theorems.specs.HasMeaning.{HasAnchor}
use Rattle.segment_theorems.specs.Joining.{JoinsBooks}
use Rattle.segment_theorems.specs.Gossip.{Delta, Fills, HasImage}
use Rattle.segment_core.specs.declared.answers.Refusal.{Refusal}
use Rattle.segment_core.specs.declared.answers.Refusal.TheVariants.{OtherRoster, Memory}
use Rattle.segment_core.specs.Exported.{exported_facts}
use Rattle.segment_core.specs.InOrder.{TakesEach, RefusesOne}
use Rattle.gossip_core.specs.Answering.{IsUncovered, listing_of}
use Rattle.gossip_core.specs.declared.absorbing.AbsorbRefusal.{AbsorbRefusal}
use Rattle.gossip_core.specs.declared.absorbing.AbsorbRefusal.TheVariants.{Uncovered, Refused}

-- ---- a delta as the laws of states speak of it
abbrev pub filling_of : DeltaData → Delta
filling_of d = record { book = d.book; base = d.base; pages = d.pages; records = d.records }

-- ---- inside one sound log
-- the state means a part of a sound log, and the delta was made for the summary from another part
pub record IsAnsweredInLog (roster : ℕ) (log F G : List Fact) (f g : Position) (s : State) (summary : SummaryData) (d : DeltaData) : Type 0 where
  pub sound : IsSound roster log
  pub means : MeansAt roster log F f s
  pub part : IsPart G log
  pub position : IsPosition roster G g
  pub fills : Fills G g (listing_of summary) (filling_of d)

-- whatever the parts are, the new state means their union
abbrev pub MeansBoth : State → SummaryData → DeltaData → State → Type 0
MeansBoth old summary d new =
    (roster : ℕ) (log F G : List Fact) (f g : Position) → IsAnsweredInLog roster log F G f g old summary d → Means roster log (F ++ G) new

-- there are such parts
abbrev pub IsOfOneLog : State → SummaryData → DeltaData → Type 0
IsOfOneLog s summary d = (roster : ℕ) × (log F G : List Fact) × (f g : Position) × IsAnsweredInLog roster log F G f g s summary d

-- ---- for arbitrary facts
-- the state answers for (covers) the summary
abbrev pub Answers : State → SummaryData → Type 0
Answers s summary = (anchor : ℕ) × HasAnchor s anchor × IsUncovered s anchor summary None

-- Of one roster, and each fact that the delta exports is taken in order: the state has what those leave, and the greater base point. A page
-- below the delta's base has the delta's image there, or zeros where that has none, and each other page what it had.
pub record AbsorbsInto (old : State) (d : DeltaData) (new : State) : Type 0 where
  pub one_roster : roster_of old.book ≡ roster_of d.book
  pub taken : State
  pub takes : TakesEach old (exported_facts d.book d.records) taken
  pub book : (new.book ≡ taken.book) × JoinsBooks old.book d.book new.book
  pub held : new.held ≡ taken.held
  pub base : new.base ≡ max old.base d.base
  pub images : (page : ℕ)
      → ((d.base ≤ version_of old.store page) × SamePage old.store new.store page)
      ⊎ ((version_of old.store page < d.base) × (version_of new.store page ≡ d.base) × HasImage (filling_of d) page (image_of new.store page))

-- the delta is of another roster, and the refusal reports both
abbrev pub IsOfOther : State → DeltaData → Refusal → Type 0
IsOfOther s d why = (roster_of s.book ≢ roster_of d.book) × (why ≡ OtherRoster (roster_of s.book) (roster_of d.book))

-- one of the facts that the delta exports is refused, or memory runs out
abbrev pub RefusesTold : State → DeltaData → Refusal → Type 0
RefusesTold s d why = (why ≡ Memory) ⊎ RefusesOne s (exported_facts d.book d.records) why

-- why an absorb is refused: another roster; else what is uncovered; else lack of memory, or a fact that the delta exports
abbrev pub RefusesAbsorb : State → SummaryData → DeltaData → AbsorbRefusal → Type 0
RefusesAbsorb s summary d (Uncovered shown) =
    (roster_of s.book ≡ roster_of d.book) × ((anchor : ℕ) × HasAnchor s anchor × IsUncovered s anchor summary (Some shown))
RefusesAbsorb s summary d (Refused why) = IsOfOther s d why ⊎ ((roster_of s.book ≡ roster_of d.book) × Answers s summary × RefusesTold s d why)

-- a delta of another roster is reported as such, whatever else may be wrong with it
abbrev pub ReportsRoster : State → DeltaData → Result (Unit {0}) AbsorbRefusal → Type 0
ReportsRoster s d answer =
    roster_of s.book ≢ roster_of d.book → answer ≡ Err (Refused (OtherRoster (roster_of s.book) (roster_of d.book)))

-- a page of a delta at its base
abbrev pub based_image : ℕ → ImageData → StoredImage
based_image base i = stored i.page base i.bytes
