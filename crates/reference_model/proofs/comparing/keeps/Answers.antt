use Rattle.std.proofs.Common.{arith}
use Rattle.std.proofs.lemmas.Grind.{common_steps}
use Rattle.reference_model.proofs.comparing.keeps.Goals as goal

pub returns-in-Cut : goal.returns-in-Cut
returns-in-Cut c = grind (arith, common_steps)

pub returns-then-epoch-at : goal.returns-then-epoch-at
returns-then-epoch-at c = grind (arith, common_steps)

pub returns-in-Advance : goal.returns-in-Advance
returns-in-Advance c = grind (arith, common_steps)

pub returns-else-number-at : goal.returns-else-number-at
returns-else-number-at c = grind (arith, common_steps)
