use Rattle.std.proofs.Common.{◌≤◌, ◌-◌, length, take}
use Rattle.sorted_runs.specs.Places.{Passes}
use Rattle.sorted_runs.proofs.search.stride_to.Given as goal

abbrev pub invariant-loop-at : goal.invariant-loop-at
invariant-loop-at g l = record { within : l.at ≤ length l.run; passed : Passes g.K.Ord.cmp l.key (take l.at l.run) }

abbrev pub decreases-loop-at : goal.decreases-loop-at
decreases-loop-at g l = length l.run - l.at
