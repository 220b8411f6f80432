-- Summaries and deltas of sets of facts, and what a state does with them.
use Rattle.std.specs.Prelude.{◌≡◌, ◌≢◌, ℕ, ◌<◌, ◌≤◌, ◌⊎◌, ◌↔◌, List, [], ◌++◌}
use Rattle.std.specs.List.{Contains}
use Rattle.redo_core.specs.Data.{RecordData, CutData, AdvanceData}
use Rattle.redo_core.specs.Sets.{IsPart, records, cuts, advances}
use Rattle.redo_core.specs.Order.{Lists}
use Rattle.redo_core.specs.Writing.{zeros}
use Rattle.redo_core.specs.Standing.{IsAlive, IsDead, IsWaiting}
use Rattle.redo_core.specs.Linked.{IsLinked}
use Rattle.redo_core.specs.Position.{Position, IsPosition}
use Rattle.redo_core.specs.PageAt.{IsPageAt}
use Rattle.redo_core.specs.Meaning.{ImageData, ImageBefore, IsKept}
use Rattle.redo_core.specs.Book.{BookData}
use Rattle.redo_core.specs.Joining.{JoinsBooks}
use Rattle.redo_core.specs.Sound.{IsSound}
use Rattle.redo_core.specs.declared.facts.Fact.{Fact}
use Rattle.redo_core.specs.declared.keys.Key.{Key}
use Rattle.segment_theorems.specs.State.{State, version_of, image_of}
use Rattle.segment_theorems.specs.Means.{MeansAt, Means, Matters, IsInImage}
use Rattle.segment_theorems.specs.Shows.{Shows}
use Rattle.segment_theorems.specs.HasMeaning.{IsKeptBy}

-- of a summary: the anchor, and the keys of the kept records
pub record Listing : Type 0 where
  pub anchor : ℕ
  pub keys : List Key

-- of a set of facts: its book, a base point with the pages there, and records
pub record Delta : Type 0 where
  pub book : BookData
  pub base : ℕ
  pub pages : List ImageData
  pub records : List RecordData

-- the summary lists the record
abbrev pub IsListed : Listing → RecordData → Type 0
IsListed summary r = (key : Key) × Contains summary.keys key × (key.epoch ≡ r.epoch) × (key.number ≡ r.number)

-- a key that the facts account for: kept by them, dead, or at or below the anchor and not waiting
abbrev pub IsAccounted : List Fact → Position → Key → Type 0
IsAccounted facts p key =
    ((r : RecordData) × IsKept facts p r × (r.epoch ≡ key.epoch) × (r.number ≡ key.number))
    ⊎ (IsDead (cuts facts) p.epoch key.epoch key.number ⊎ ((key.epoch ≤ p.epoch) × (key.number ≤ p.anchor)))

-- facts of position p answer for a summary
pub record AnswersFor (facts : List Fact) (p : Position) (summary : Listing) : Type 0 where
  pub anchor : summary.anchor ≤ p.anchor
  pub keys : (key : Key) → Contains summary.keys key → IsAccounted facts p key

-- a delta has what facts of position p have beyond a summary
pub record Fills (facts : List Fact) (p : Position) (summary : Listing) (d : Delta) : Type 0 where
  pub same_cuts : (c : CutData) → Contains d.book.cuts c ↔ Contains (cuts facts) c
  pub epoch : d.book.complete ≡ p.epoch
  pub same_points : d.book.points ≡ p.points
  pub same_waits : (a : AdvanceData) → Contains d.book.waits a ↔ (Contains (advances facts) a × (p.epoch < a.epoch))
  pub base : IsLinked facts p.epoch d.base × (d.base ≤ p.anchor)
  -- exactly the nonzero pages at the base
  pub pages : Lists ImageBefore (λ i. IsPageAt facts p.epoch i.page d.base i.bytes × (i.bytes ≢ zeros)) d.pages
  pub of_facts : (r : RecordData) → Contains d.records r → Contains (records facts) r
  pub enough : (r : RecordData) → Contains (records facts) r
      → IsWaiting p.epoch r.epoch ⊎ (IsAlive (cuts facts) p.epoch r.epoch r.number × (d.base < r.number) × (summary.anchor < r.number))
      → Contains d.records r ⊎ IsListed summary r

-- a delta's image of a page: zeros where it has none
abbrev pub HasImage : Delta → ℕ → List ℕ → Type 0
HasImage d page bytes =
    ((i : ImageData) × Contains d.pages i × (i.page ≡ page) × (i.bytes ≡ bytes))
    ⊎ (((i : ImageData) → Contains d.pages i → i.page ≢ page) × (bytes ≡ zeros))

-- s' is what s knows together with the delta
pub record JoinsDelta (s : State) (d : Delta) (s' : State) : Type 0 where
  pub book : JoinsBooks s.book d.book s'.book
  -- the base is the greater, and where the delta's is, pages of lower versions are the delta's
  pub base : ((d.base ≤ s.base) × (s'.base ≡ s.base)) ⊎ ((s.base < d.base) × (s'.base ≡ d.base) × ((page : ℕ) → d.base ≤ version_of s'.store page))
  pub images : (page : ℕ)
      → ((version_of s'.store page ≡ version_of s.store page) × (image_of s'.store page ≡ image_of s.store page))
      ⊎ ((version_of s.store page ≤ d.base) × (version_of s'.store page ≡ d.base) × HasImage d page (image_of s'.store page))
  pub of_both : (r : RecordData) → Contains s'.held r → Contains s.held r ⊎ Contains d.records r
  pub kept : (r : RecordData) → Contains s.held r ⊎ Contains d.records r → Matters s'.book.cuts s'.book.complete r → Contains s'.held r ⊎ IsInImage s' r

-- Where the facts answer for the summary, absorbing means the union.
abbrev pub AbsorbMeansUnion : Type 0
AbsorbMeansUnion =
    (roster : ℕ) (log F G : List Fact) (f g : Position) (s s' : State) (summary : Listing) (d : Delta)
    → IsSound roster log → MeansAt roster log F f s → IsPart G log → IsPosition roster G g → Fills G g summary d → AnswersFor F f summary
    → JoinsDelta s d s' → Means roster log (F ++ G) s'

-- d replies to a summary from a state whose anchor this is
pub record IsDeltaFor (anchor : ℕ) (s : State) (summary : Listing) (d : Delta) : Type 0 where
  pub same_cuts : (c : CutData) → Contains d.book.cuts c ↔ Contains s.book.cuts c
  pub epoch : d.book.complete ≡ s.book.complete
  pub same_points : d.book.points ≡ s.book.points
  pub same_waits : (a : AdvanceData) → Contains d.book.waits a ↔ Contains s.book.waits a
  pub of_held : (r : RecordData) → Contains d.records r
      → Contains s.held r × (IsWaiting s.book.complete r.epoch ⊎ IsAlive s.book.cuts s.book.complete r.epoch r.number)
  -- where the summary's anchor is high enough, the records above it; otherwise the pages at the anchor and the kept records
  pub rest :
      ((s.base ≤ summary.anchor) × (d.base ≡ 0) × (d.pages ≡ []) × ((r : RecordData) → IsKeptBy s summary.anchor r → Contains d.records r ⊎ IsListed summary r))
      ⊎ ((d.base ≡ anchor) × Lists ImageBefore (λ i. Shows s i.page anchor i.bytes × (i.bytes ≢ zeros)) d.pages
      × ((r : RecordData) → IsKeptBy s anchor r → Contains d.records r ⊎ IsListed summary r))

-- A reply fills what the summary lacks.
abbrev pub ReplyFills : Type 0
ReplyFills =
    (roster : ℕ) (log G : List Fact) (g : Position) (s : State) (summary : Listing) (d : Delta)
    → IsSound roster log → MeansAt roster log G g s → IsDeltaFor g.anchor s summary d → Fills G g summary d
