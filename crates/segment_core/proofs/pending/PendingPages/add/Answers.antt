use Rattle.std.proofs.Common.{arith}
use Rattle.std.proofs.lemmas.Grind.{common_steps}
use Rattle.segment_core.proofs.pending.PendingPages.add.Goals as goal

pub returns-else-is_err-clause-looks : goal.returns-else-is_err-clause-looks
returns-else-is_err-clause-looks c = grind (arith, common_steps)

pub returns-else-is_err-clause-more : goal.returns-else-is_err-clause-more
returns-else-is_err-clause-more c = grind (arith, common_steps)
