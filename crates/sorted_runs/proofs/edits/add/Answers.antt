use Rattle.std.proofs.lemmas.Grind.{common_steps}
use Rattle.std.proofs.Common.{arith}
use Rattle.sorted_runs.proofs.Shaped.{gains_behind, bounded_at}
use Rattle.sorted_runs.proofs.edits.add.Goals as goal

pub returns-then-at-len-clause-gains : goal.returns-then-at-len-clause-gains
returns-then-at-len-clause-gains g c = grind (arith, common_steps, gains_behind)

pub add_into-requires-2-clause-room : goal.add_into-requires-2-clause-room
add_into-requires-2-clause-room g c d = grind (arith, common_steps, bounded_at)

pub split-requires-clause-place : goal.split-requires-clause-place
split-requires-clause-place g c = grind (arith, common_steps)

pub add_into-requires-2-clause-within : goal.add_into-requires-2-clause-within
add_into-requires-2-clause-within g c = grind (arith, common_steps)

pub add_into-requires-clause-place : goal.add_into-requires-clause-place
add_into-requires-clause-place g c = grind (arith, common_steps)

pub returns-then-len-lt-FULL-clause-shaped : goal.returns-then-len-lt-FULL-clause-shaped
returns-then-len-lt-FULL-clause-shaped g c = grind (arith, common_steps)

pub add_into-requires-clause-room : goal.add_into-requires-clause-room
add_into-requires-clause-room g c = grind (arith, common_steps)

pub add_into-requires-2-clause-place : goal.add_into-requires-2-clause-place
add_into-requires-2-clause-place g c = grind (arith, common_steps)

pub returns-clause-unchanged : goal.returns-clause-unchanged
returns-clause-unchanged g c = grind (arith, common_steps)

pub returns-clause-gains : goal.returns-clause-gains
returns-clause-gains g c = grind (arith, common_steps)

pub returns-clause-shaped : goal.returns-clause-shaped
returns-clause-shaped g c = grind (arith, common_steps)
