use Rattle.std.proofs.Common.{take}
use Rattle.std.specs.List.{All}
use Rattle.snapshot.specs.Placing.{IsKeptFor}
use Rattle.snapshot.proofs.placing.are_kept.Given as goal

-- the records so far are kept
abbrev pub invariant-loop-redo : goal.invariant-loop-redo
invariant-loop-redo l = All (IsKeptFor l.book l.anchor) (take l.redo-index l.records)
