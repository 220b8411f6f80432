use Rattle.redo_core.specs.Sets.{advances}
use Rattle.redo_core.specs.Points.{ArePoints}
use Rattle.reference_model.proofs.readers.points.Given as goal

-- the points of the readers so far
abbrev pub invariant-loop-place : goal.invariant-loop-place
invariant-loop-place l = ArePoints l.place (advances l.facts) l.epoch l.points.items
