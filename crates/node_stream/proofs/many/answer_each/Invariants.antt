use Rattle.std.proofs.Common.{length}
use Rattle.node_stream.specs.Gathering.{HasPlaceFor, gathered_bytes}
use Rattle.node_stream.proofs.Together.{Answered}
use Rattle.node_stream.proofs.many.answer_each.Given as goal

-- what is in front of the rest is answered, and for the rest there is room
abbrev pub invariant-loop-frame : goal.invariant-loop-frame
invariant-loop-frame l = HasPlaceFor l.answers l.left × Answered l.fn.guard l.frames l.rest (gathered_bytes l.answers) l.left l.guard

abbrev pub decreases-loop-frame : goal.decreases-loop-frame
decreases-loop-frame l = length l.rest
