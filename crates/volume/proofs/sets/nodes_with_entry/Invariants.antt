use Rattle.std.proofs.Common.{◌≡◌, take, length}
use Rattle.volume.specs.Sets.{marks_of}
use Rattle.volume.proofs.sets.nodes_with_entry.Given as goal

-- the nodes that are passed are in the set where they have an entry
abbrev pub invariant-loop-place : goal.invariant-loop-place
invariant-loop-place l = (length l.set ≡ 15) × (take l.place l.set ≡ marks_of (take l.place l.table))
