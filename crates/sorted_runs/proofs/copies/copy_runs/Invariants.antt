use Rattle.std.proofs.Common.{take}
use Rattle.std.specs.List.{AllZip}
use Rattle.sorted_runs.specs.Copies.{IsRunCopy}
use Rattle.sorted_runs.proofs.copies.copy_runs.Given as goal

abbrev pub invariant-loop-run : goal.invariant-loop-run
invariant-loop-run g l = AllZip (IsRunCopy g.V.Clone.is_clone) (take l.run-index l.runs) l.copies.items
