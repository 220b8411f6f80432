use Rattle.std.proofs.Common.{◌≡◌, ◌≤◌, ◌+◌, ℕ, List, length, get_or}
use Rattle.redo_core.specs.declared.facts.Fact.{Fact}
use Rattle.log_law.specs.Counted.{Describes}
use Rattle.log_law.specs.Targets.{IsBoundTo}
use Rattle.log_law.proofs.targets.alive_bounds.Given as goal

abbrev pub invariant-loop-epoch : goal.invariant-loop-epoch
invariant-loop-epoch l = record {
  len : length l.bounds.items ≡ l.view + 1;
  within : l.epoch ≤ l.view;
  each : (log : List Fact) → Describes log l.cuts → (e : ℕ) → l.epoch ≤ e → e ≤ l.view → IsBoundTo log l.view e (get_or l.bounds.items e 0);
}

abbrev pub decreases-loop-epoch : goal.decreases-loop-epoch
decreases-loop-epoch l = l.epoch
