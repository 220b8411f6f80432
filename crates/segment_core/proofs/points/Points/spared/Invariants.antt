use Rattle.segment_core.specs.Points.{IsSparedChain}
use Rattle.segment_core.proofs.points.Points.spared.Given as goal

-- the LSN is linked, and what is linked up to the limit is not above it
abbrev pub invariant-loop-number : goal.invariant-loop-number
invariant-loop-number l = IsSparedChain l.view.book.now l.view.held.now l.base (record { limit = l.limit; number = l.number })

abbrev pub decreases-loop-number : goal.decreases-loop-number
decreases-loop-number l = l.number
