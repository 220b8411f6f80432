use Rattle.std.proofs.Common.{◌≡◌, ℕ, ◌+◌, List, length}
use Rattle.framing.specs.Coming.{Comes}
use Rattle.framing.specs.FrameKeeping.{HoldsFrame}
use Rattle.framing.proofs.frames.reading.read_bytes.Given as goal

-- the bytes read so far are kept
abbrev pub invariant-loop-left : goal.invariant-loop-left
invariant-loop-left g l = (length l.chunk ≡ 8192) × (bytes : List ℕ) × Comes g.R.Read.remaining l.fn.reader l.reader l.fn.incoming l.incoming bytes
    × (length bytes + l.left ≡ l.length) × HoldsFrame l.incoming l.length bytes

abbrev pub decreases-loop-left : goal.decreases-loop-left
decreases-loop-left g l = l.left
