use Rattle.std.proofs.Common.{◌≡◌, ◌++◌, replicate, drop}
use Rattle.redo_core.proofs.pages.clear.Given as goal

-- the bytes so far are zero
abbrev pub invariant-loop-i : goal.invariant-loop-i
invariant-loop-i l = l.page ≡ replicate l.i 0 ++ drop l.i l.fn.page
