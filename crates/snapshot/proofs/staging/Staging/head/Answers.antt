use Rattle.std.proofs.Common.{arith}
use Rattle.std.proofs.lemmas.Grind.{common_steps}
use Rattle.snapshot.proofs.staging.Staging.head.Goals as goal

pub returns-in-Page-clause-none : goal.returns-in-Page-clause-none
returns-in-Page-clause-none c = grind (arith, common_steps)

pub returns-in-Head-clause-some : goal.returns-in-Head-clause-some
returns-in-Head-clause-some c = grind (arith, common_steps)

pub returns-in-Records-clause-none : goal.returns-in-Records-clause-none
returns-in-Records-clause-none c = grind (arith, common_steps)

pub returns-in-Head-clause-total : goal.returns-in-Head-clause-total
returns-in-Head-clause-total c = grind (arith, common_steps)
