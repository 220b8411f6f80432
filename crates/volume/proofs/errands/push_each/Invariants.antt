use Rattle.std.proofs.Common.{◌≡◌, ◌++◌, take}
use Rattle.volume.specs.Asking.{asks_from}
use Rattle.volume.proofs.errands.push_each.Given as goal

-- the nodes that are passed are asked
abbrev pub invariant-loop-place : goal.invariant-loop-place
invariant-loop-place l = l.actions.items ≡ l.initial.actions.items ++ asks_from l.generation l.errand 0 (take l.place l.births)
