use Rattle.std.proofs.Common.{arith}
use Rattle.std.proofs.lemmas.Grind.{common_steps}
use Rattle.epoch_book.proofs.cuts.cuts_below.Goals as goal

pub returns-else-complete-epoch : goal.returns-else-complete-epoch
returns-else-complete-epoch c = grind (arith, common_steps)

pub returns-then-readers-eq1 : goal.returns-then-readers-eq1
returns-then-readers-eq1 c = grind (arith, common_steps)

pub returns-else-lo-point : goal.returns-else-lo-point
returns-else-lo-point c = grind (arith, common_steps)
