use Rattle.std.proofs.Common.{◌≡◌, ◌+◌, length, drop}
use Rattle.sorted_runs.specs.Rows.{entries}
use Rattle.sorted_runs.specs.Edits.{offset}
use Rattle.sorted_runs.proofs.ranges.cut_whole.Given as goal

abbrev pub invariant-loop-run : goal.invariant-loop-run
invariant-loop-run g l = l.left ≡ offset l.fn.runs.items l.from 0 + (length (entries (drop l.run-index l.run-items)) + length (entries (drop l.to l.fn.runs.items)))
