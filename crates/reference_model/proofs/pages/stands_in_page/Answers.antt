use Rattle.std.proofs.Common.{arith}
use Rattle.std.proofs.lemmas.Grind.{common_steps}
use Rattle.reference_model.proofs.pages.stands_in_page.Goals as goal

pub returns-then-is_alive : goal.returns-then-is_alive
returns-then-is_alive c = grind (arith, common_steps)

pub returns-else-is_alive : goal.returns-else-is_alive
returns-else-is_alive c = grind (arith, common_steps)
