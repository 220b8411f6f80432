use Rattle.std.proofs.Common.{arith}
use Rattle.std.proofs.lemmas.Grind.{common_steps}
use Rattle.sorted_runs.proofs.Copied.{zip_more}
use Rattle.sorted_runs.proofs.copies.copy_run.Goals as goal

pub loop-entry-preserved : goal.loop-entry-preserved
loop-entry-preserved g c = grind (arith, common_steps, zip_more)

pub returns : goal.returns
returns g c = grind (arith, common_steps)
