use Rattle.std.proofs.Common.{arith}
use Rattle.std.proofs.lemmas.Grind.{common_steps}
use Rattle.epoch_book.proofs.parts.is_cut_past.Goals as goal

pub returns-then-complete-epoch : goal.returns-then-complete-epoch
returns-then-complete-epoch c = grind (arith, common_steps)

pub returns-else-complete-epoch : goal.returns-else-complete-epoch
returns-else-complete-epoch c = grind (arith, common_steps)
