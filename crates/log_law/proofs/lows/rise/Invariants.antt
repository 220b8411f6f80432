use Rattle.std.proofs.Common.{◌≡◌, ◌≤◌, length}
use Rattle.log_law.proofs.Reaching.{Risen}
use Rattle.log_law.proofs.lows.rise.Given as goal

abbrev pub invariant-loop-epoch : goal.invariant-loop-epoch
invariant-loop-epoch l = record {
  len : length l.tops.items ≡ length l.fn.tops.items;
  some : 1 ≤ l.epoch;
  risen : Risen l.fn.tops.items l.tops.items l.epoch;
}
