use Rattle.std.proofs.Common.{arith, rules}
use Rattle.std.proofs.lemmas.Grind.{common_steps}
use Rattle.text.proofs.Numbers.{digits_of_undigit, digits_of_large, digits_of_good, undigit_at, value_at, value_from-ge}
use Rattle.node_stream.proofs.wide.wide_digits.Goals as goal

pub returns-then-not-is_ascii_digit-clause-value : goal.returns-then-not-is_ascii_digit-clause-value
returns-then-not-is_ascii_digit-clause-value c = search (rules, digits_of_undigit, undigit_at)

pub returns-then-next-from-clause-value : goal.returns-then-next-from-clause-value
returns-then-next-from-clause-value c = search (rules, value_at, value_from-ge, digits_of_large)

pub returns-clause-value : goal.returns-clause-value
returns-clause-value c = grind (arith, common_steps, digits_of_good)

pub loop-c-preserved : goal.loop-c-preserved
loop-c-preserved c = grind (arith, common_steps)
