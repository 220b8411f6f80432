use Rattle.std.proofs.Common.{◌≡◌, ◌≤◌, List, ◌++◌, take}
use Rattle.std.specs.List.{Contains}
use Rattle.redo_core.specs.declared.facts.Fact.{Fact}
use Rattle.log_law.specs.declared.links.Item.{Item}
use Rattle.log_law.specs.declared.alive.Entry.{Entry}
use Rattle.log_law.specs.Alive.{stack_of, IsStack, HoldsAlive, CanPush}
use Rattle.log_law.proofs.links.push_all.Given as goal

abbrev pub invariant-loop-item : goal.invariant-loop-item
invariant-loop-item l = record {
  view : l.alive.view ≡ l.initial.alive.view;
  stack : IsStack l.alive;
  holds : (log : List Fact) (past : List Item) → HoldsAlive log past l.initial.alive → CanPush log l.group l.initial.alive
      → HoldsAlive log (past ++ take l.item-index l.group) l.alive;
  above : (log : List Fact) → CanPush log l.group l.initial.alive → (t : Item) (x : Entry) → Contains l.group t → Contains (stack_of l.alive) x
      → x.number ≤ t.number;
}
