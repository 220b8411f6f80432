use Rattle.std.proofs.Common.{◌≡◌, ℕ, List, map}
use Rattle.std.specs.List.{All, concat}
use Rattle.std.specs.Io.KnownBytes.{Consumes}
use Rattle.framing.specs.Watching.{device_of}
use Rattle.framing.specs.Frames.{IsShort, framed}
use Rattle.framing.specs.FrameKeeping.{frame_limit}
use Rattle.framing.specs.FramesServed.{AreAnswered}
use Rattle.framing.proofs.frames.serving.serve.Given as goal

-- the frames that were read so far are answered, and nothing after them has been read
abbrev pub invariant-loop : goal.invariant-loop
invariant-loop g l = (frame_limit l.incoming ≡ l.limit) × (frames : List (List ℕ))
    × Consumes (g.R.Read.remaining (device_of l.fn.reader)) (g.R.Read.remaining (device_of l.reader)) (concat (map framed frames))
    × All IsShort frames
    × AreAnswered g.M.FrameMachine.answers g.W.Write.contents l.limit frames l.fn.machine l.machine l.fn.writer l.writer
