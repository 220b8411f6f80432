use Rattle.std.proofs.Common.{arith}
use Rattle.std.proofs.lemmas.Grind.{common_steps}
use Rattle.framing.proofs.lines.pending.Pending.add.Goals as goal

pub returns-then-is_err-clause-holds : goal.returns-then-is_err-clause-holds
returns-then-is_err-clause-holds c = grind (arith, common_steps)

pub returns-then-part-saturating_sub-clause-holds : goal.returns-then-part-saturating_sub-clause-holds
returns-then-part-saturating_sub-clause-holds c = grind (arith, common_steps)

pub returns-else-is_err-clause-holds : goal.returns-else-is_err-clause-holds
returns-else-is_err-clause-holds c = grind (arith, common_steps)

pub returns-then-self-ne0-clause-holds : goal.returns-then-self-ne0-clause-holds
returns-then-self-ne0-clause-holds c = grind (arith, common_steps)
