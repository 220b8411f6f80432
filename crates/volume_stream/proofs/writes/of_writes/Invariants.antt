use Rattle.std.proofs.Common.{◌≡◌, take}
use Rattle.redo_core.specs.Data.{plain}
use Rattle.volume_stream.proofs.writes.of_writes.Given as goal

-- the writes so far
abbrev pub invariant-loop-write : goal.invariant-loop-write
invariant-loop-write l = l.patches.items ≡ plain (take l.write-index l.writes)
