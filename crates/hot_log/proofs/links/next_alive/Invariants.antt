use Rattle.std.proofs.Common.{length}
use Rattle.hot_log.proofs.Beside.{IsPassed}
use Rattle.hot_log.proofs.links.next_alive.Given as goal

abbrev pub invariant-loop-key : goal.invariant-loop-key
invariant-loop-key l = IsPassed l.book l.fn.left l.left

abbrev pub decreases-loop-key : goal.decreases-loop-key
decreases-loop-key l = length l.left
