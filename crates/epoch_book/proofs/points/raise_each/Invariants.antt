use Rattle.std.proofs.Common.{take}
use Rattle.redo_core.specs.Points.{RaisesPoints}
use Rattle.epoch_book.proofs.points.raise_each.Given as goal

-- the advances so far have raised the points
abbrev pub invariant-loop-wait : goal.invariant-loop-wait
invariant-loop-wait l = RaisesPoints l.complete l.fn.points (take l.wait-index l.waits) l.points
