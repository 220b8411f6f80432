use Rattle.std.proofs.Common.{◌≡◌, length}
use Rattle.std.specs.Prelude.{All}
use Rattle.fleet_drill.specs.Parts.{HasAll}
use Rattle.fleet_drill.proofs.joining.join_all.Given as goal

abbrev pub invariant-loop-own : goal.invariant-loop-own
invariant-loop-own g l = record {
  len : length l.joined.items ≡ l.own;
  has : All (λ j. HasAll g.L.LogName.roster g.L.LogName.log j l.closed) l.joined.items;
}
