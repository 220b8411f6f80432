use Rattle.std.proofs.Common.{arith}
use Rattle.std.proofs.lemmas.Grind.{common_steps}
use Rattle.segment_core.proofs.merge_transaction.MergeTransaction.unite.Goals as goal

pub returns-clause-rolls_back : goal.returns-clause-rolls_back
returns-clause-rolls_back c = grind (arith, common_steps)

pub returns-clause-unites : goal.returns-clause-unites
returns-clause-unites c = grind (arith, common_steps)

pub roll_back-requires : goal.roll_back-requires
roll_back-requires c = grind (arith, common_steps)
