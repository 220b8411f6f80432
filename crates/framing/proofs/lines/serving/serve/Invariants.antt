use Rattle.std.proofs.Common.{◌≡◌, ℕ, List, []}
use Rattle.std.specs.Io.KnownBytes.{Consumes}
use Rattle.framing.specs.LineKeeping.{HoldsLine, line_limit}
use Rattle.framing.specs.LinesServed.{EndsWith}
use Rattle.framing.specs.Watching.{device_of}
use Rattle.framing.proofs.lines.serving.serve.Given as goal

-- the lines of what was read so far are answered
abbrev pub invariant-loop : goal.invariant-loop
invariant-loop g l = (line_limit l.pending ≡ l.limit) × (input : List ℕ) × (rest : List ℕ)
    × Consumes (g.R.Read.remaining (device_of l.fn.reader)) (g.R.Read.remaining (device_of l.reader)) input
    × HoldsLine l.pending rest
    × EndsWith g.M.LineMachine.answers g.W.Write.contents l.limit [] input l.fn.machine l.machine l.fn.writer l.writer rest
