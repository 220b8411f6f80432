use Rattle.redo_core.specs.Sets.{advances}
use Rattle.redo_core.specs.Past.{ArePast}
use Rattle.reference_model.proofs.past.are_past.Given as goal

-- the readers so far are past the truncation
abbrev pub invariant-loop-place : goal.invariant-loop-place
invariant-loop-place l = ArePast l.place (advances l.log) l.cut
