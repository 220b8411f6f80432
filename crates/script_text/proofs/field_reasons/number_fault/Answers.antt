use Rattle.std.proofs.Common.{arith}
use Rattle.std.proofs.lemmas.Grind.{common_steps}
use Rattle.script_text.proofs.Faults.{above_limit}
use Rattle.script_text.proofs.field_reasons.number_fault.Goals as goal

pub returns-else-has_leading_zero : goal.returns-else-has_leading_zero
returns-else-has_leading_zero c = grind (arith, common_steps, above_limit)
