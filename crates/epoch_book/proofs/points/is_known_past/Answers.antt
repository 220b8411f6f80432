use Rattle.std.proofs.Common.{arith}
use Rattle.std.proofs.lemmas.Grind.{common_steps}
use Rattle.epoch_book.proofs.points.is_known_past.Goals as goal

pub returns-then-lo-of : goal.returns-then-lo-of
returns-then-lo-of c = grind (arith, common_steps)

pub returns-else-lo-of : goal.returns-else-lo-of
returns-else-lo-of c = grind (arith, common_steps)
