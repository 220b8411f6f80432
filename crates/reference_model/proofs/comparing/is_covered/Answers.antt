use Rattle.std.proofs.Common.{arith}
use Rattle.std.proofs.lemmas.Grind.{common_steps}
use Rattle.reference_model.proofs.comparing.is_covered.Goals as goal

pub returns-then-keeps : goal.returns-then-keeps
returns-then-keeps c = grind (arith, common_steps)

pub returns-then-settles : goal.returns-then-settles
returns-then-settles c = grind (arith, common_steps)

pub returns-else-keeps : goal.returns-else-keeps
returns-else-keeps c = grind (arith, common_steps)
