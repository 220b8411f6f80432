use Rattle.std.proofs.Common.{arith}
use Rattle.std.proofs.lemmas.Grind.{common_steps}
use Rattle.sorted_runs.proofs.edits.add_counted.Goals as goal

pub returns-clause-shaped : goal.returns-clause-shaped
returns-clause-shaped g c = grind (arith, common_steps)

pub returns-clause-gains : goal.returns-clause-gains
returns-clause-gains g c = grind (arith, common_steps)

pub add-requires-clause-place : goal.add-requires-clause-place
add-requires-clause-place g c = grind (arith, common_steps)

pub returns-in_err-add-clause-unchanged : goal.returns-in_err-add-clause-unchanged
returns-in_err-add-clause-unchanged g c = grind (arith, common_steps)

pub returns-clause-counts : goal.returns-clause-counts
returns-clause-counts g c = grind (arith, common_steps)
