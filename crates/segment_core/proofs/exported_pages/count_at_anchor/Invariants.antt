use Rattle.segment_core.proofs.Pages.{pages_left}
use Rattle.segment_core.proofs.PagesShown.{CountsPassed}
use Rattle.segment_core.proofs.exported_pages.count_at_anchor.Given as goal

-- the pages that are passed
abbrev pub invariant-loop-next : goal.invariant-loop-next
invariant-loop-next l = CountsPassed l.segment l.next l.count

abbrev pub decreases-loop-next : goal.decreases-loop-next
decreases-loop-next l = pages_left l.next
