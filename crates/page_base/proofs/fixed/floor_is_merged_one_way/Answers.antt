use Rattle.std.proofs.Common.{arith}
use Rattle.std.proofs.lemmas.Grind.{common_steps}
use Rattle.page_base.proofs.fixed.floor_is_merged_one_way.Goals as goal

pub returns-then-first : goal.returns-then-first
returns-then-first c = grind (arith, common_steps)

pub returns-else-first : goal.returns-else-first
returns-else-first c = grind (arith, common_steps)
