use Rattle.std.proofs.Common.{◌≡◌, take, map}
use Rattle.redo_core.specs.declared.patches.Patch.TheVariants.{Bytes}
use Rattle.redo_core.proofs.patches.are_just.Given as goal

-- the patches so far are the writes so far
abbrev pub invariant-loop-i : goal.invariant-loop-i
invariant-loop-i l = take l.i l.patches ≡ map Bytes (take l.i l.writes)
