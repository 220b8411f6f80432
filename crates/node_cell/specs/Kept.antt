-- What the lock of a node keeps.
use Rattle.std.specs.Prelude.{◌≡◌, ℕ, List, [], ◌∷◌, Some}
use Rattle.std.specs.List.{Contains}
use Rattle.redo_core.specs.declared.facts.Fact.{Fact}
use Rattle.named_log.specs.Places.{fact_at}
use Rattle.atomic_table.specs.Seated.{TableId}
use Rattle.node_lock.specs.Trail.{Entry}
use Rattle.segment_theorems.specs.State.{State}
use Rattle.segment_theorems.specs.Means.{Means}

-- what a segment stores, and a trail: of each acknowledged fact the number of the pass that brought it, and its place in the log
pub record KeptData : Type 0 where
  pub segment : State
  pub trail : List Entry

-- what a node had when it was closed, and which lock it had
pub record ClosedData : Type 0 where
  pub lock : TableId
  pub segment : State
  pub trail : List Entry

-- the facts have the log's fact at a place
abbrev pub HasPlace : List Fact → List Fact → ℕ → Type 0
HasPlace log facts place = (fact : Fact) × (fact_at log place ≡ Some fact) × Contains facts fact

-- the facts have the log's fact of each entry of a trail, or of each receipt: the second number of both is the place in the log
abbrev pub HasPlaces : List Fact → List Fact → List (ℕ × ℕ) → Type 0
HasPlaces log facts [] = Unit {0}
HasPlaces log facts (e ∷ es) = HasPlace log facts e.1 × HasPlaces log facts es

-- the segment means a part of the log that has every fact of the trail
pub record MeansTrail (roster : ℕ) (log : List Fact) (segment : State) (trail : List Entry) : Type 0 where
  pub facts : List Fact
  pub means : Means roster log facts segment
  pub has : HasPlaces log facts trail

-- each part of the log that the old segment means, the new one means
abbrev pub KeepsParts : ℕ → List Fact → State → State → Type 0
KeepsParts roster log old new = (facts : List Fact) → Means roster log facts old → Means roster log facts new
