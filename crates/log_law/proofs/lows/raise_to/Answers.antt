use Rattle.std.proofs.Common.{arith}
use Rattle.std.proofs.lemmas.Grind.{common_steps}
use Rattle.log_law.proofs.lows.raise_to.Goals as goal

pub returns-clause-at : goal.returns-clause-at
returns-clause-at c = grind (arith, common_steps)

pub returns-clause-others : goal.returns-clause-others
returns-clause-others c = grind (arith, common_steps)
