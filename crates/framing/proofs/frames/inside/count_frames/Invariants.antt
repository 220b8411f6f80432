use Rattle.std.proofs.Common.{length}
use Rattle.framing.proofs.Nested.{Counted}
use Rattle.framing.proofs.frames.inside.count_frames.Given as goal

-- the bytes before the rest are `count` frames
abbrev pub invariant-loop-rest : goal.invariant-loop-rest
invariant-loop-rest l = Counted l.bytes l.rest l.count

abbrev pub decreases-loop-rest : goal.decreases-loop-rest
decreases-loop-rest l = length l.rest
