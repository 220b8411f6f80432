-- What a delivery answers.
use Rattle.std.specs.Prelude.{◌≡◌, ℕ, ◌≤◌, ◌<◌, List, Some}
use Rattle.redo_core.specs.Sets.{IsPart}
use Rattle.redo_core.specs.Position.{Position, IsPosition}
use Rattle.redo_core.specs.declared.facts.Fact.{Fact}
use Rattle.named_log.specs.Places.{fact_at}
use Rattle.front_board.specs.FrontWord.{FrontData}
use Rattle.segment_theorems.specs.State.{State}
use Rattle.segment_theorems.specs.Promises.{TakesFact}
use Rattle.node_cell.specs.Kept.{HasPlace, HasPlaces}
use Rattle.node_cell.specs.declared.answers.DeliverFault.{DeliverFault}
use Rattle.node_cell.specs.declared.answers.DeliverFault.TheVariants.{TrailFull, Memory}

-- the complete epoch and the complete point of one part of the log, which has the fact at the place, and those of these earlier
-- entries or receipts
pub record IsFrontWith (roster : ℕ) (log : List Fact) (earlier : List (ℕ × ℕ)) (place : ℕ) (front : FrontData) : Type 0 where
  pub facts : List Fact
  pub p : Position
  pub part : IsPart facts log
  pub position : IsPosition roster facts p
  pub has : HasPlace log facts place
  pub had : HasPlaces log facts earlier
  pub epoch : front.epoch ≡ p.epoch
  pub number : front.number ≡ p.complete

-- the new segment has taken the log's fact of a place
abbrev pub TakesPlace : List Fact → State → ℕ → State → Type 0
TakesPlace log old place new = (fact : Fact) × (fact_at log place ≡ Some fact) × TakesFact old fact new

-- why a fact is not appended to a trail of so many entries: the trail is full, or it is not and memory ran out
abbrev pub RefusesEntry : ℕ → ℕ → DeliverFault → Type 0
RefusesEntry capacity count (TrailFull shown) = (shown ≡ capacity) × (capacity ≤ count)
RefusesEntry capacity count Memory = count < capacity
