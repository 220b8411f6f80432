use Rattle.std.proofs.Common.{arith}
use Rattle.std.proofs.lemmas.Grind.{common_steps}
use Rattle.page_base.proofs.store.BaseStore.merge.Goals as goal

pub returns-in-Err-clause-form : goal.returns-in-Err-clause-form
returns-in-Err-clause-form c = grind (arith, common_steps)

pub returns-in-Ok-clause-merges : goal.returns-in-Ok-clause-merges
returns-in-Ok-clause-merges c = grind (arith, common_steps)

pub invariant_of-self-in-Err : goal.invariant_of-self-in-Err
invariant_of-self-in-Err c = grind (arith, common_steps)
