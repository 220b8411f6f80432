use Rattle.std.proofs.Common.{arith}
use Rattle.std.proofs.lemmas.Grind.{common_steps}
use Rattle.gossip_core.proofs.answering.is_covered.Goals as goal

pub returns-then-not-keeps : goal.returns-then-not-keeps
returns-then-not-keeps c = grind (arith, common_steps)

pub returns-else-not-keeps : goal.returns-else-not-keeps
returns-else-not-keeps c = grind (arith, common_steps)
