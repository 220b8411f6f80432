use Rattle.std.proofs.Common.{◌≡◌, ◌≤◌, length}
use Rattle.text.specs.Number.{number_on}
use Rattle.text.proofs.number.more_digits.Given as goal

-- the digits that are left go on with those read so far
abbrev pub invariant-loop-left : goal.invariant-loop-left
invariant-loop-left l = record {
  going_on : number_on l.limit l.value l.left ≡ number_on l.limit l.first l.text;
  within : l.value ≤ l.limit;
}

abbrev pub decreases-loop-left : goal.decreases-loop-left
decreases-loop-left l = length l.left
