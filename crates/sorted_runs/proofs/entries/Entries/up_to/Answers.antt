use Rattle.std.proofs.lemmas.Grind.{common_steps}
use Rattle.std.proofs.Common.{arith}
use Rattle.sorted_runs.proofs.Parts.{read_to}
use Rattle.sorted_runs.proofs.entries.Entries.up_to.Goals as goal

pub returns : goal.returns
returns g c = grind (arith, common_steps, read_to)

pub slice_bounds-result-end-3 : goal.slice_bounds-result-end-3
slice_bounds-result-end-3 g c = grind (arith, common_steps)

pub slice_bounds-result-end-2 : goal.slice_bounds-result-end-2
slice_bounds-result-end-2 g c = grind (arith, common_steps)
