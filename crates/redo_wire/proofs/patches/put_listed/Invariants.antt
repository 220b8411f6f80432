use Rattle.std.proofs.Common.{◌≡◌, ◌++◌, take}
use Rattle.std.specs.List.{flat_map}
use Rattle.redo_wire.specs.Records.{patch_bytes}
use Rattle.redo_wire.proofs.patches.put_listed.Given as goal

-- the patches so far are written
abbrev pub invariant-loop-p : goal.invariant-loop-p
invariant-loop-p l = l.out.items ≡ l.fn.out.items ++ flat_map (patch_bytes l.is_full) (take l.p-index l.patches)
