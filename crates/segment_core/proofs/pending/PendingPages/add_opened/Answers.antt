use Rattle.std.proofs.Common.{arith}
use Rattle.std.proofs.lemmas.Grind.{common_steps}
use Rattle.segment_core.proofs.pending.PendingPages.add_opened.Goals as goal

pub returns-clause-more : goal.returns-clause-more
returns-clause-more c = grind (arith, common_steps)

pub returns-clause-looks : goal.returns-clause-looks
returns-clause-looks c = grind (arith, common_steps)

pub returns-then-is_below-clause-looks : goal.returns-then-is_below-clause-looks
returns-then-is_below-clause-looks c = grind (arith, common_steps)
