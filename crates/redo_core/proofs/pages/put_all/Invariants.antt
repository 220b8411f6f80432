use Rattle.std.proofs.Common.{◌≡◌, length, drop}
use Rattle.redo_core.specs.Data.{plain}
use Rattle.redo_core.specs.Writing.{with_patches}
use Rattle.redo_core.proofs.pages.put_all.Given as goal

-- what is left to do gives the same page
abbrev pub invariant-loop-w : goal.invariant-loop-w
invariant-loop-w l = record {
  size : length l.page ≡ 4096;
  told : with_patches l.page (plain (drop l.w-index l.writes)) ≡ with_patches l.fn.page (plain l.writes);
}
