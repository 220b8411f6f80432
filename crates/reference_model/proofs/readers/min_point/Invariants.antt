use Rattle.std.proofs.Common.{◌≤◌, take}
use Rattle.std.specs.List.{All, Contains}
use Rattle.reference_model.proofs.readers.min_point.Given as goal

-- one of the points, and none so far is below it
abbrev pub invariant-loop-p : goal.invariant-loop-p
invariant-loop-p l = record {
  among : Contains l.points l.low;
  low : All (λ p. l.low ≤ p) (take l.p-index l.points);
}
