use Rattle.std.proofs.Common.{◌≤◌, ◌-◌, List}
use Rattle.redo_core.specs.declared.facts.Fact.{Fact}
use Rattle.log_law.specs.declared.links.Item.{Item}
use Rattle.log_law.specs.Counted.{Describes}
use Rattle.log_law.specs.Alive.{IsStack, HoldsAlive}
use Rattle.log_law.proofs.alive.AliveRecords.enter.Given as goal

abbrev pub invariant-loop-self : goal.invariant-loop-self
invariant-loop-self l = record {
  stack : IsStack l.self;
  upper : l.initial.self.view ≤ l.epoch → l.self.view ≤ l.epoch;
  holds : (log : List Fact) (past : List Item) → Describes log l.cuts → HoldsAlive log past l.initial.self → HoldsAlive log past l.self;
}

abbrev pub decreases-loop-self : goal.decreases-loop-self
decreases-loop-self l = l.epoch - l.self.view
