use Rattle.std.proofs.Common.{◌++◌}
use Rattle.segment_core.proofs.Pages.{pages_left}
use Rattle.segment_join.specs.Sameness.{ShowOne}
use Rattle.segment_join.proofs.Visiting.{IsWritten, HoldsBefore}
use Rattle.segment_join.proofs.sameness.has_same_written.Given as goal

-- the pages that are passed are the same
abbrev pub invariant-loop-next : goal.invariant-loop-next
invariant-loop-next l = record {
  written : IsWritten (l.one.held ++ l.other.held) l.next;
  same : HoldsBefore (ShowOne l.one l.point l.other l.other_point) (l.one.held ++ l.other.held) l.next;
}

abbrev pub decreases-loop-next : goal.decreases-loop-next
decreases-loop-next l = pages_left l.next
