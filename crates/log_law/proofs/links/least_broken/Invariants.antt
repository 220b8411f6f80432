use Rattle.std.proofs.Common.{◌≤◌, ◌-◌, List, length}
use Rattle.redo_core.specs.declared.facts.Fact.{Fact}
use Rattle.log_law.specs.Counted.{Describes}
use Rattle.log_law.specs.Alive.{IsStack}
use Rattle.log_law.specs.Links.{AreItems, IsInKeyOrder}
use Rattle.log_law.proofs.Walking.{IsWalked}
use Rattle.log_law.proofs.links.least_broken.Given as goal

abbrev pub invariant-loop-start : goal.invariant-loop-start
invariant-loop-start l = record {
  within : l.start ≤ length l.items;
  stack : IsStack l.alive;
  walked : (log : List Fact) → Describes log l.cuts → AreItems log l.items → IsInKeyOrder l.items → IsWalked log l.items l.start l.alive l.least;
}

abbrev pub decreases-loop-start : goal.decreases-loop-start
decreases-loop-start l = length l.items - l.start
