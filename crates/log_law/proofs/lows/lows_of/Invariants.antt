use Rattle.std.proofs.Common.{◌-◌, ◌≤◌}
use Rattle.log_law.specs.Lows.{AreLeastPoints}
use Rattle.log_law.proofs.lows.lows_of.Given as goal

-- the readers so far
abbrev pub invariant-loop-reader : goal.invariant-loop-reader
invariant-loop-reader l = record {
  some : 1 ≤ l.reader;
  within : l.reader ≤ l.readers;
  lows : AreLeastPoints l.reader l.facts l.len l.lows.items;
}

abbrev pub decreases-loop-reader : goal.decreases-loop-reader
decreases-loop-reader l = l.readers - l.reader
