use Rattle.std.proofs.Common.{arith}
use Rattle.std.proofs.lemmas.Grind.{common_steps}
use Rattle.text.proofs.number.number_before.Goals as goal

pub returns-in-48-clause-value : goal.returns-in-48-clause-value
returns-in-48-clause-value c = grind (arith, common_steps)

pub returns-else-value-limit-clause-value : goal.returns-else-value-limit-clause-value
returns-else-value-limit-clause-value c = grind (arith, common_steps)
