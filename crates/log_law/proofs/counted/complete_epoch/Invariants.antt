use Rattle.std.proofs.Common.{◌≡◌, ℕ, ◌≤◌, ◌<◌, get_or, None}
use Rattle.log_law.proofs.counted.complete_epoch.Given as goal

abbrev pub invariant-loop-epoch : goal.invariant-loop-epoch
invariant-loop-epoch l = (e : ℕ) → 1 ≤ e → e < l.epoch → get_or l.table e None ≡ None → ⊥
