use Rattle.std.proofs.Common.{◌≤◌, ◌<◌, ℕ, get_or}
use Rattle.segment_join.proofs.covering.are_at_most.Given as goal

-- those so far are at most the others
abbrev pub invariant-loop-place : goal.invariant-loop-place
invariant-loop-place l = (i : ℕ) → i < l.place → get_or l.lower i 0 ≤ get_or l.upper i 0
