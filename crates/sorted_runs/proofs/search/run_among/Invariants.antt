use Rattle.std.proofs.Common.{◌-◌}
use Rattle.sorted_runs.proofs.Halved.{IsRunWithin}
use Rattle.sorted_runs.proofs.search.run_among.Given as goal

abbrev pub invariant-loop-end : goal.invariant-loop-end
invariant-loop-end g l = IsRunWithin g.K.Ord.cmp l.firsts l.key l.r l.end

abbrev pub decreases-loop-end : goal.decreases-loop-end
decreases-loop-end g l = l.end - l.r
