use Rattle.std.proofs.Common.{◌≡◌, ◌≤◌, ◌*◌, length, take}
use Rattle.std.specs.List.{flat_map}
use Rattle.redo_core.specs.Writes.{WriteData}
use Rattle.redo_core.specs.declared.patches.Patch.TheVariants.{Bytes}
use Rattle.redo_wire.specs.Records.{patch_bytes}
use Rattle.redo_wire.proofs.sizes.writes_size.Given as goal

-- the size of the writes so far
abbrev pub invariant-loop-w : goal.invariant-loop-w
invariant-loop-w l = (l.total ≡ length (flat_map (λ (w : WriteData). patch_bytes l.is_full (Bytes w)) (take l.w-index l.writes))) × (l.total ≤ 4101 * l.w-index)
