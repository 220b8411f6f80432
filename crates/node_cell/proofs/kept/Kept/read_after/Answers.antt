use Rattle.std.proofs.Common.{rules, arith}
use Rattle.std.proofs.lemmas.Grind.{common_steps}
use Rattle.node_cell.proofs.Keeping.{tells_after}
use Rattle.node_cell.proofs.kept.Kept.read_after.Goals as goal

pub returns-in-Err-clause-answer : goal.returns-in-Err-clause-answer
returns-in-Err-clause-answer g c = search rules

pub returns-in-Ok-clause-answer : goal.returns-in-Ok-clause-answer
returns-in-Ok-clause-answer g c = search (rules, tells_after)

pub returns-in-Err-read-clause-answer : goal.returns-in-Err-read-clause-answer
returns-in-Err-read-clause-answer g c = grind (arith, common_steps, tells_after)
