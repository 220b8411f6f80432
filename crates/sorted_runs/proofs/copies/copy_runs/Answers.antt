use Rattle.std.proofs.Common.{rules}
use Rattle.sorted_runs.proofs.Copied.{zip_more}
use Rattle.sorted_runs.proofs.copies.copy_runs.Goals as goal

pub loop-run-preserved : goal.loop-run-preserved
loop-run-preserved g c = search (rules, zip_more)
