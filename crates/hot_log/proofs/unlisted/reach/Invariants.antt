use Rattle.std.proofs.Common.{length, ◌-◌}
use Rattle.hot_log.proofs.unlisted.reach.Given as goal

abbrev pub decreases-loop-place : goal.decreases-loop-place
decreases-loop-place l = length l.keys - l.place
