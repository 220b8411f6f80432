use Rattle.std.proofs.Common.{◌↔◌}
use Rattle.hot_log.specs.Alive.{IsLinkedFrom}
use Rattle.hot_log.proofs.view.BookView.is_linked.Given as goal

-- the LSN is linked where the one that the walk has reached is
abbrev pub invariant-loop-at : goal.invariant-loop-at
invariant-loop-at l = IsLinkedFrom l.self.book.now l.self.held.now l.from l.number ↔ IsLinkedFrom l.self.book.now l.self.held.now l.from l.at

abbrev pub decreases-loop-at : goal.decreases-loop-at
decreases-loop-at l = l.at
