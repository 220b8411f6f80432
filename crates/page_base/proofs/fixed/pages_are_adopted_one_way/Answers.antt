use Rattle.std.proofs.Common.{arith}
use Rattle.std.proofs.lemmas.Grind.{common_steps}
use Rattle.page_base.proofs.fixed.pages_are_adopted_one_way.Goals as goal

pub returns-else-first-clause-versions : goal.returns-else-first-clause-versions
returns-else-first-clause-versions c = grind (arith, common_steps)

pub returns-then-first-clause-versions : goal.returns-then-first-clause-versions
returns-then-first-clause-versions c = grind (arith, common_steps)

pub returns-else-first-clause-floors : goal.returns-else-first-clause-floors
returns-else-first-clause-floors c = grind (arith, common_steps)

pub returns-then-first-clause-floors : goal.returns-then-first-clause-floors
returns-then-first-clause-floors c = grind (arith, common_steps)

pub returns-then-first-clause-images : goal.returns-then-first-clause-images
returns-then-first-clause-images c = grind (arith, common_steps)
