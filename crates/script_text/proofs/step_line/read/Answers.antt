use Rattle.std.proofs.Common.{arith}
use Rattle.std.proofs.lemmas.Grind.{common_steps}
use Rattle.script_text.proofs.step_line.read.Goals as goal

pub overflow_add-offset : goal.overflow_add-offset
overflow_add-offset c = grind (arith, common_steps)

pub overflow_cast-result : goal.overflow_cast-result
overflow_cast-result c = grind (arith, common_steps)

pub overflow_cast-result-2 : goal.overflow_cast-result-2
overflow_cast-result-2 c = grind (arith, common_steps)

pub overflow_cast-result-3 : goal.overflow_cast-result-3
overflow_cast-result-3 c = grind (arith, common_steps)

pub overflow_cast-result-4 : goal.overflow_cast-result-4
overflow_cast-result-4 c = grind (arith, common_steps)
