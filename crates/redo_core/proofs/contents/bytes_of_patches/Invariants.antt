use Rattle.std.proofs.Common.{◌≡◌, ◌≤◌, ◌*◌, take}
use Rattle.std.specs.List.{sum_by}
use Rattle.redo_core.specs.Shape.{bytes_in}
use Rattle.redo_core.proofs.contents.bytes_of_patches.Given as goal

-- the bytes so far, at most a page for each patch
abbrev pub invariant-loop-p : goal.invariant-loop-p
invariant-loop-p l = record {
  told : l.total ≡ sum_by bytes_in (take l.p-index l.patches);
  small : l.total ≤ 4096 * l.p-index;
}
