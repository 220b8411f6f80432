use Rattle.std.proofs.Common.{◌≡◌, ℕ, ◌<◌, ◌≤◌, get_or, length, min}
use Rattle.log_law.proofs.lows.lower_all.Given as goal

-- the values so far are lowered, and the others are unchanged
abbrev pub invariant-loop-epoch : goal.invariant-loop-epoch
invariant-loop-epoch l = record {
  len : length l.lows.items ≡ length l.fn.lows.items;
  done : (e : ℕ) → e < l.epoch → get_or l.lows.items e 0 ≡ min (get_or l.fn.lows.items e 0) (get_or l.tops e 0);
  rest : (e : ℕ) → l.epoch ≤ e → get_or l.lows.items e 0 ≡ get_or l.fn.lows.items e 0;
}
