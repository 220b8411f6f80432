use Rattle.std.proofs.Common.{◌≡◌, take, replicate}
use Rattle.redo_core.proofs.pages.is_zero_to_end.Given as goal

-- the bytes so far are zero
abbrev pub invariant-loop-b : goal.invariant-loop-b
invariant-loop-b l = take l.b-index l.bytes ≡ replicate l.b-index 0
