-- The position of a set of facts: its complete epoch, complete point, readers' points, minimum read point and anchor.
use Rattle.std.specs.Prelude.{◌≡◌, ℕ, ◌≤◌, List}
use Rattle.redo_core.specs.Sets.{cuts, advances}
use Rattle.redo_core.specs.Order.{IsGreatest}
use Rattle.redo_core.specs.CompleteEpoch.{IsCompleteEpoch}
use Rattle.redo_core.specs.Linked.{IsLinked}
use Rattle.redo_core.specs.Roster.{least}
use Rattle.redo_core.specs.Points.{ArePoints}
use Rattle.redo_core.specs.declared.facts.Fact.{Fact}

pub record Position : Type 0 where
  pub epoch : ℕ
  pub complete : ℕ
  pub points : List ℕ
  pub min : ℕ
  pub anchor : ℕ

-- the complete epoch, the greatest linked LSN, each reader's point, the least of these, and the greatest linked LSN up to it
pub record IsPosition (roster : ℕ) (facts : List Fact) (p : Position) : Type 0 where
  pub epoch : IsCompleteEpoch (cuts facts) p.epoch
  pub complete : IsGreatest (IsLinked facts p.epoch) p.complete
  pub points : ArePoints roster (advances facts) p.epoch p.points
  pub min : p.min ≡ least p.points
  pub anchor : IsGreatest (λ n. IsLinked facts p.epoch n × (n ≤ p.min)) p.anchor
