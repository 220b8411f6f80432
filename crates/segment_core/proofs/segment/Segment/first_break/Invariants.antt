use Rattle.segment_theorems.specs.HasMeaning.{HasAnchor}
use Rattle.segment_core.proofs.Pages.{pages_left}
use Rattle.segment_core.proofs.FirstBreak.{IsWholeTo}
use Rattle.segment_core.proofs.segment.Segment.first_break.Given as goal

-- no chain is broken of the pages that are passed
abbrev pub invariant-loop-next : goal.invariant-loop-next
invariant-loop-next l = record {
  own : HasAnchor l.self l.point;
  whole : IsWholeTo l.self l.next;
}

abbrev pub decreases-loop-next : goal.decreases-loop-next
decreases-loop-next l = pages_left l.next
