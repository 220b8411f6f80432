use Rattle.std.proofs.Common.{List, ◌++◌, take}
use Rattle.std.specs.List.{Contains}
use Rattle.redo_core.specs.declared.facts.Fact.{Fact}
use Rattle.log_law.specs.declared.links.Item.{Item}
use Rattle.log_law.specs.Alive.{stack_of}
use Rattle.log_law.specs.Links.{IsLeastBroken, JudgesItem, law_broken}
use Rattle.log_law.proofs.links.least_in.Given as goal

abbrev pub invariant-loop-item : goal.invariant-loop-item
invariant-loop-item l =
    (log : List Fact) (past : List Item) → IsLeastBroken log past l.initial.least
    → ((t : Item) → Contains l.group t → JudgesItem log t (law_broken t (stack_of l.alive)))
    → IsLeastBroken log (past ++ take l.item-index l.group) l.least
