use Rattle.std.proofs.Common.{arith}
use Rattle.std.proofs.lemmas.Grind.{common_steps}
use Rattle.reference_model.proofs.links.is_linked_within.Goals as goal

pub returns-else-within : goal.returns-else-within
returns-else-within c = grind (arith, common_steps)

pub returns-then-within : goal.returns-then-within
returns-then-within c = grind (arith, common_steps)
