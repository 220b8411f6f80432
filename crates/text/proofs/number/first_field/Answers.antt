use Rattle.std.proofs.Common.{arith}
use Rattle.std.proofs.lemmas.Grind.{common_steps}
use Rattle.text.proofs.Cursor.{separator_behind, front_is_first}
use Rattle.text.proofs.number.first_field.Goals as goal

pub returns-in-32-clause-bound : goal.returns-in-32-clause-bound
returns-in-32-clause-bound c = grind (arith, common_steps, front_is_first)

pub returns-in-32-clause-value : goal.returns-in-32-clause-value
returns-in-32-clause-value c = grind (arith, common_steps, separator_behind)

pub returns-in-empty-clause-value : goal.returns-in-empty-clause-value
returns-in-empty-clause-value c = grind (arith, common_steps, front_is_first)

pub returns-in_default-clause-value : goal.returns-in_default-clause-value
returns-in_default-clause-value c = grind (arith, common_steps, front_is_first)

pub returns-in_err-number-clause-value : goal.returns-in_err-number-clause-value
returns-in_err-number-clause-value c = grind (arith, common_steps, front_is_first)
