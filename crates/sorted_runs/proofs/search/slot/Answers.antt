use Rattle.std.proofs.Common.{arith}
use Rattle.std.proofs.lemmas.Grind.{common_steps}
use Rattle.sorted_runs.proofs.search.slot.Goals as goal

pub returns-then-is_behind-clause-gap : goal.returns-then-is_behind-clause-gap
returns-then-is_behind-clause-gap g c = grind (arith, common_steps)
