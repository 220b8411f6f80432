use Rattle.std.proofs.Common.{◌≡◌, ◌++◌, take}
use Rattle.std.specs.List.{flat_map}
use Rattle.redo_core.specs.Writes.{WriteData}
use Rattle.redo_core.specs.declared.patches.Patch.TheVariants.{Bytes}
use Rattle.redo_wire.specs.Records.{patch_bytes}
use Rattle.redo_wire.proofs.patches.put_writes.Given as goal

-- the writes so far are written
abbrev pub invariant-loop-w : goal.invariant-loop-w
invariant-loop-w l = l.out.items ≡ l.fn.out.items ++ flat_map (λ (w : WriteData). patch_bytes l.is_full (Bytes w)) (take l.w-index l.writes)
