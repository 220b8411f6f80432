use Rattle.hot_log.proofs.Hanging.{Hanging}
use Rattle.hot_log.proofs.view.BookView.gap_above.Given as goal

abbrev pub invariant-loop-below : goal.invariant-loop-below
invariant-loop-below l = Hanging l.self.book.now l.self.held.now l.number l.redo

abbrev pub decreases-loop-below : goal.decreases-loop-below
decreases-loop-below l = l.redo.number
