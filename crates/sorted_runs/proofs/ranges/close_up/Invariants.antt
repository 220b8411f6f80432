use Rattle.std.proofs.Common.{◌≡◌, ℕ, ◌+◌, ◌-◌, ◌≤◌, ◌<◌, get_or}
use Rattle.sorted_runs.proofs.ranges.close_up.Given as goal

abbrev pub invariant-loop-place : goal.invariant-loop-place
invariant-loop-place g l =
    record {
      kept : (k : ℕ) (d : g.row.T.Denot) → k < l.fn.from → get_or l.row k d ≡ get_or l.fn.row k d;
      moved : (k : ℕ) (d : g.row.T.Denot) → l.fn.from ≤ k → k < l.place → get_or l.row k d ≡ get_or l.fn.row (l.fn.from + l.fn.gap + (k - l.fn.from)) d;
      rest : (k : ℕ) (d : g.row.T.Denot) → l.place + l.fn.gap ≤ k → get_or l.row k d ≡ get_or l.fn.row k d;
    }
