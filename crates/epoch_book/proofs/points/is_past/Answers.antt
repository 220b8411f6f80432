use Rattle.std.proofs.Common.{arith}
use Rattle.std.proofs.lemmas.Grind.{common_steps}
use Rattle.epoch_book.proofs.points.is_past.Goals as goal

pub returns-then-lo-point : goal.returns-then-lo-point
returns-then-lo-point c = grind (arith, common_steps)

pub loop-wait-preserved : goal.loop-wait-preserved
loop-wait-preserved c = grind (arith, common_steps)
