use Rattle.std.proofs.Common.{◌≡◌, ℕ, List, length}
use Rattle.framing.specs.LineKeeping.{HoldsLine, line_limit}
use Rattle.framing.proofs.Going.{Goes}
use Rattle.framing.proofs.lines.serving.answer_bytes.Given as goal

-- for every beginning of the first line, the lines so far are answered
abbrev pub invariant-loop-front : goal.invariant-loop-front
invariant-loop-front g l = (line_limit l.pending ≡ line_limit l.fn.pending) × ((begun : List ℕ) → HoldsLine l.fn.pending begun → (part : List ℕ) × HoldsLine l.pending part
    × Goes g.M.LineMachine.answers g.W.Write.contents (line_limit l.fn.pending) begun l.bytes l.fn.machine l.machine l.fn.writer l.writer part l.rest)

abbrev pub decreases-loop-front : goal.decreases-loop-front
decreases-loop-front g l = length l.rest
