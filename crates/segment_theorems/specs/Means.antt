-- Which facts a state means.
use Rattle.std.specs.Prelude.{◌≡◌, ℕ, ◌≤◌, ◌⊎◌, List}
use Rattle.std.specs.List.{Contains}
use Rattle.redo_core.specs.Data.{RecordData, CutData}
use Rattle.redo_core.specs.Sets.{IsPart, records, cuts}
use Rattle.redo_core.specs.Standing.{IsAlive, IsWaiting}
use Rattle.redo_core.specs.Linked.{IsLinked}
use Rattle.redo_core.specs.Position.{Position, IsPosition}
use Rattle.redo_core.specs.PageAt.{IsPageAt}
use Rattle.redo_core.specs.Book.{roster_of}
use Rattle.redo_core.specs.Knowing.{KnowsFacts}
use Rattle.redo_core.specs.declared.facts.Fact.{Fact}
use Rattle.segment_theorems.specs.State.{State, version_of, image_of}

-- a record that is not dead in view k
abbrev pub Matters : List CutData → ℕ → RecordData → Type 0
Matters cs k r = IsWaiting k r.epoch ⊎ IsAlive cs k r.epoch r.number

-- a record that does not wait and that its page's image contains, at or below the base point
abbrev pub IsInImage : State → RecordData → Type 0
IsInImage s r = (r.epoch ≤ s.book.complete) × (r.number ≤ s.base) × (r.number ≤ version_of s.store r.page)

-- the state means the facts, whose position is p, inside a log of the roster
pub record MeansAt (roster : ℕ) (log facts : List Fact) (p : Position) (s : State) : Type 0 where
  pub part : IsPart facts log
  pub position : IsPosition roster facts p
  -- the book is that of the facts, for the readers of the roster
  pub book : KnowsFacts facts s.book
  pub epoch : s.book.complete ≡ p.epoch
  pub readers : roster_of s.book ≡ roster
  -- the base point is linked, and not above the anchor
  pub base : IsLinked facts p.epoch s.base × (s.base ≤ p.anchor)
  -- what is stored is of the log, and of the facts unless it is dead
  pub of_log : (r : RecordData) → Contains s.held r → Contains (records log) r
  pub of_facts : (r : RecordData) → Contains s.held r → Matters (cuts facts) p.epoch r → Contains (records facts) r
  -- each of the facts' records that is not dead is stored, or in its page's image
  pub kept : (r : RecordData) → Contains (records facts) r → Matters (cuts facts) p.epoch r → Contains s.held r ⊎ IsInImage s r
  -- each image is the page at its version, which is not above the anchor
  pub versions : (page : ℕ) → version_of s.store page ≤ p.anchor
  pub images : (page : ℕ) → IsPageAt facts p.epoch page (version_of s.store page) (image_of s.store page)

-- the state means the facts inside a log of the roster
abbrev pub Means : ℕ → List Fact → List Fact → State → Type 0
Means roster log facts s = (p : Position) × MeansAt roster log facts p s
