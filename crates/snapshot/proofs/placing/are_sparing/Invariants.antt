use Rattle.std.proofs.Common.{take}
use Rattle.std.specs.List.{All}
use Rattle.snapshot.proofs.placing.are_sparing.Given as goal
use Rattle.redo_core.specs.Standing.{SparesIn}

-- the truncations so far spare the record
abbrev pub invariant-loop-cut : goal.invariant-loop-cut
invariant-loop-cut l = All (SparesIn l.complete l.redo.epoch l.redo.number) (take l.cut-index l.cuts)
