use Rattle.std.proofs.Common.{arith}
use Rattle.std.proofs.lemmas.Grind.{common_steps}
use Rattle.page_base.proofs.adopting.raise_each.Goals as goal

pub loop-page-init : goal.loop-page-init
loop-page-init c = grind (arith, common_steps)
