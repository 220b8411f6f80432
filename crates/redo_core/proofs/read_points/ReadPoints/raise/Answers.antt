use Rattle.std.proofs.Common.{arith}
use Rattle.std.proofs.lemmas.Grind.{common_steps}
use Rattle.redo_core.proofs.read_points.ReadPoints.raise.Goals as goal

pub returns-then-index-point-clause-count : goal.returns-then-index-point-clause-count
returns-then-index-point-clause-count c = grind (arith, common_steps)

pub returns-then-index-point-clause-others : goal.returns-then-index-point-clause-others
returns-then-index-point-clause-others c = grind (arith, common_steps)

pub returns-then-index-point-clause-point : goal.returns-then-index-point-clause-point
returns-then-index-point-clause-point c = grind (arith, common_steps)
