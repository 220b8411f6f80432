use Rattle.std.proofs.lemmas.Grind.{common_steps}
use Rattle.std.proofs.Common.{arith}
use Rattle.sorted_runs.proofs.Strides.{behind}
use Rattle.sorted_runs.proofs.search.is_behind.Goals as goal

pub returns : goal.returns
returns g c above = grind (arith, common_steps, behind)

pub returns-then-len-eq0 : goal.returns-then-len-eq0
returns-then-len-eq0 g c = grind (arith, common_steps)
