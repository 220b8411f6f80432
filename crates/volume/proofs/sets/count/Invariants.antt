use Rattle.std.proofs.Common.{◌≡◌, ◌≤◌, take}
use Rattle.volume.specs.Sets.{count_marked}
use Rattle.volume.proofs.sets.count.Given as goal

-- the nodes that are passed are counted
abbrev pub invariant-loop-is_in : goal.invariant-loop-is_in
invariant-loop-is_in l = (l.found ≡ count_marked (take l.is_in-index l.set)) × (l.found ≤ l.is_in-index)
