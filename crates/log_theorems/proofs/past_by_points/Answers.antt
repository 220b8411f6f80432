use Rattle.log_theorems.proofs.Passed.{past_by_points}
use Rattle.log_theorems.proofs.past_by_points.Goals as goal

pub returns : goal.returns
returns c = past_by_points
