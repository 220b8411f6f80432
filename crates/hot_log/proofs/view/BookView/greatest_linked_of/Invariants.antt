use Rattle.std.proofs.Common.{◌≡◌, ◌≤◌}
use Rattle.redo_core.specs.Data.{RecordData}
use Rattle.hot_log.specs.Alive.{IsLinkedHeld}
use Rattle.hot_log.proofs.view.BookView.greatest_linked_of.Given as goal

-- no linked record of the page is above the LSN
abbrev pub invariant-loop-redo : goal.invariant-loop-redo
invariant-loop-redo l = record {
  bound : l.to ≤ l.limit;
  none : (r : RecordData) → IsLinkedHeld l.self.book.now l.self.held.now l.from r × (r.page ≡ l.page) × (r.number ≤ l.limit) → r.number ≤ l.to;
}

abbrev pub decreases-loop-redo : goal.decreases-loop-redo
decreases-loop-redo l = l.to
