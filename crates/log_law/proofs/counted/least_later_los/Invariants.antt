use Rattle.std.proofs.Common.{◌≡◌, ℕ, ◌≤◌, ◌<◌, get_or, length, List}
use Rattle.redo_core.specs.declared.facts.Fact.{Fact}
use Rattle.log_law.specs.Counted.{IsTable, IsLeastLaterLo}
use Rattle.log_law.specs.Lows.{AreLeastPoints}
use Rattle.log_law.proofs.counted.least_later_los.Given as goal

abbrev pub invariant-loop-epoch : goal.invariant-loop-epoch
invariant-loop-epoch l = record {
  len : length l.least_later_lo.items ≡ length l.table;
  inside : l.epoch < length l.table;
  least_later_lo : (roster : ℕ) (log : List Fact) → IsTable log l.table → AreLeastPoints roster log (length l.table) l.lows → (e : ℕ)
      → l.epoch ≤ e → IsLeastLaterLo roster log e (get_or l.least_later_lo.items e 281474976710655);
}

abbrev pub decreases-loop-epoch : goal.decreases-loop-epoch
decreases-loop-epoch l = l.epoch
