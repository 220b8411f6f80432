use Rattle.std.proofs.Common.{◌≤◌}
use Rattle.redo_core.specs.Standing.{IsAlive}
use Rattle.hot_log.specs.Held.{IsHeld}
use Rattle.segment_theorems.specs.State.{version_of}
use Rattle.segment_core.proofs.Pages.{RemovesPassed, pages_left}
use Rattle.segment_core.proofs.shedding.remove_page_by_page.Given as goal

-- what is gone is folded and of a page that is passed
abbrev pub invariant-loop-next : goal.invariant-loop-next
invariant-loop-next l = record {
  form : IsHeld l.hot;
  gone : RemovesPassed (λ r. IsAlive l.book.cuts l.book.complete r.epoch r.number × (r.number ≤ l.point) × (r.number ≤ version_of l.store r.page)) l.next
      l.fn.hot l.hot;
}

abbrev pub decreases-loop-next : goal.decreases-loop-next
decreases-loop-next l = pages_left l.next
