use Rattle.std.proofs.Common.{◌≡◌, ◌≤◌, ◌*◌, length, take}
use Rattle.std.specs.List.{flat_map}
use Rattle.redo_wire.specs.Records.{patch_bytes}
use Rattle.redo_wire.proofs.sizes.listed_size.Given as goal

-- the size of the patches so far
abbrev pub invariant-loop-p : goal.invariant-loop-p
invariant-loop-p l = (l.total ≡ length (flat_map (patch_bytes l.is_full) (take l.p-index l.patches))) × (l.total ≤ 4101 * l.p-index)
