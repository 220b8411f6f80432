use Rattle.std.proofs.Common.{arith}
use Rattle.std.proofs.lemmas.Grind.{common_steps}
use Rattle.sorted_runs.proofs.placing.put_in.Goals as goal

pub returns-clause-items : goal.returns-clause-items
returns-clause-items g c = grind (arith, common_steps)

pub offset_bounds-deref_mut-at : goal.offset_bounds-deref_mut-at
offset_bounds-deref_mut-at g c = grind (arith, common_steps)
