use Rattle.std.proofs.Common.{◌≡◌, length, drop}
use Rattle.redo_core.specs.Writing.{with_patches}
use Rattle.redo_core.proofs.pages.patch_all.Given as goal

-- what is left to do gives the same page
abbrev pub invariant-loop-p : goal.invariant-loop-p
invariant-loop-p l = record {
  size : length l.page ≡ 4096;
  told : with_patches l.page (drop l.p-index l.patches) ≡ with_patches l.fn.page l.patches;
}
