use Rattle.std.proofs.Common.{arith}
use Rattle.std.proofs.lemmas.Grind.{common_steps}
use Rattle.script_text.proofs.step_line.fold.Goals as goal

pub overflow_cast-result : goal.overflow_cast-result
overflow_cast-result c = grind (arith, common_steps)

pub overflow_cast-result-2 : goal.overflow_cast-result-2
overflow_cast-result-2 c = grind (arith, common_steps)
