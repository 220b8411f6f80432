use Rattle.std.proofs.Common.{◌≡◌, ◌≤◌, ◌*◌, length, take}
use Rattle.std.specs.List.{sum_by}
use Rattle.redo_core.proofs.contents.bytes_of.Given as goal

-- the bytes so far, at most a page for each write
abbrev pub invariant-loop-w : goal.invariant-loop-w
invariant-loop-w l = record {
  told : l.total ≡ sum_by (λ w. length w.bytes) (take l.w-index l.writes);
  small : l.total ≤ 4096 * l.w-index;
}
