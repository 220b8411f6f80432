use Rattle.std.proofs.Common.{arith}
use Rattle.std.proofs.lemmas.Grind.{common_steps}
use Rattle.node_cell.proofs.folds.FoldPlan.fold.Goals as goal

pub new-requires : goal.new-requires
new-requires g c = grind (arith, common_steps)
