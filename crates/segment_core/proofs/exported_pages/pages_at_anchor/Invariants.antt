use Rattle.std.proofs.Common.{ℕ}
use Rattle.segment_theorems.specs.HasMeaning.{HasAnchor}
use Rattle.segment_core.proofs.Pages.{pages_left}
use Rattle.segment_core.proofs.PagesShown.{ListsPassed}
use Rattle.segment_core.proofs.exported_pages.pages_at_anchor.Given as goal

-- the pages that are passed
abbrev pub invariant-loop-next : goal.invariant-loop-next
invariant-loop-next l = (anchor : ℕ) → HasAnchor l.segment anchor → ListsPassed l.segment anchor l.next l.pages.items

abbrev pub decreases-loop-next : goal.decreases-loop-next
decreases-loop-next l = pages_left l.next
