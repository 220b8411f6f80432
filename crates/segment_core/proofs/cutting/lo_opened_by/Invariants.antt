use Rattle.std.proofs.Common.{◌-◌, length}
use Rattle.segment_core.proofs.cutting.lo_opened_by.Given as goal

abbrev pub decreases-loop-place : goal.decreases-loop-place
decreases-loop-place l = length l.cuts - l.place
