use Rattle.std.proofs.Common.{arith}
use Rattle.std.proofs.lemmas.Grind.{common_steps}
use Rattle.node_cell.proofs.kept.Kept.seek.Goals as goal

pub returns-else-eq-clause-keeps : goal.returns-else-eq-clause-keeps
returns-else-eq-clause-keeps g c = grind (arith, common_steps)

pub returns-then-eq-clause-keeps : goal.returns-then-eq-clause-keeps
returns-then-eq-clause-keeps g c = grind (arith, common_steps)
