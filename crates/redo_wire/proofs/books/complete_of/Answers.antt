use Rattle.std.proofs.Common.{arith}
use Rattle.std.proofs.lemmas.Grind.{common_steps}
use Rattle.redo_wire.proofs.books.complete_of.Goals as goal

pub loop-cut-preserved : goal.loop-cut-preserved
loop-cut-preserved c = grind (arith, common_steps)

pub returns-then-epoch-k : goal.returns-then-epoch-k
returns-then-epoch-k c = grind (arith, common_steps)

pub returns : goal.returns
returns c = grind (arith, common_steps)
