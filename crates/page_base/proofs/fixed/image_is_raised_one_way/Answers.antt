use Rattle.std.proofs.Common.{arith}
use Rattle.std.proofs.lemmas.Grind.{common_steps}
use Rattle.page_base.proofs.Stores.{raised_images}
use Rattle.page_base.proofs.fixed.image_is_raised_one_way.Goals as goal

pub returns-then-first-clause-images : goal.returns-then-first-clause-images
returns-then-first-clause-images c = grind (arith, common_steps)

pub returns-then-first-clause-versions : goal.returns-then-first-clause-versions
returns-then-first-clause-versions c = grind (arith, common_steps)

pub returns-else-first-clause-versions : goal.returns-else-first-clause-versions
returns-else-first-clause-versions c = grind (arith, common_steps)

pub returns-then-first-clause-stored : goal.returns-then-first-clause-stored
returns-then-first-clause-stored c = grind (arith, common_steps, raised_images)
