use Rattle.std.proofs.Common.{arith}
use Rattle.std.proofs.lemmas.Grind.{common_steps}
use Rattle.redo_core.proofs.pages.put_patch.Goals as goal

pub returns-in-Fill : goal.returns-in-Fill
returns-in-Fill c = grind (arith, common_steps)
