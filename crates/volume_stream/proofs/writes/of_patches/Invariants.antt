use Rattle.std.proofs.Common.{◌≡◌, take}
use Rattle.volume_stream.proofs.writes.of_patches.Given as goal

-- the patches so far
abbrev pub invariant-loop-patch : goal.invariant-loop-patch
invariant-loop-patch l = l.patches.items ≡ take l.patch-index l.listed
