use Rattle.std.proofs.Common.{◌≡◌, take}
use Rattle.redo_core.proofs.patches.are_same_patches.Given as goal

-- the patches so far are the same
abbrev pub invariant-loop-i : goal.invariant-loop-i
invariant-loop-i l = take l.i l.left ≡ take l.i l.right
