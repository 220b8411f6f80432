use Rattle.std.proofs.Common.{◌≡◌, length, take}
use Rattle.log_law.specs.Counted.{IsTable}
use Rattle.log_law.proofs.counted.first_cuts.Given as goal

abbrev pub invariant-loop-fact : goal.invariant-loop-fact
invariant-loop-fact l = record {
  len : length l.table.items ≡ l.len;
  table : IsTable (take l.fact-index l.facts) l.table.items;
}
