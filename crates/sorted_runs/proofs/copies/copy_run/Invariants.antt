use Rattle.std.proofs.Common.{take}
use Rattle.std.specs.List.{AllZip}
use Rattle.sorted_runs.specs.Copies.{IsEntryCopy}
use Rattle.sorted_runs.proofs.copies.copy_run.Given as goal

abbrev pub invariant-loop-entry : goal.invariant-loop-entry
invariant-loop-entry g l = AllZip (IsEntryCopy g.V.Clone.is_clone) (take l.entry-index l.run) l.copies.items
