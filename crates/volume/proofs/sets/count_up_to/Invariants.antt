use Rattle.std.proofs.Common.{◌≡◌, ◌≤◌, take}
use Rattle.volume.specs.Sets.{count_at_least}
use Rattle.volume.proofs.sets.count_up_to.Given as goal

-- the points that are passed are counted
abbrev pub invariant-loop-reached : goal.invariant-loop-reached
invariant-loop-reached l = (l.found ≡ count_at_least l.point (take l.reached-index l.points)) × (l.found ≤ l.reached-index)
