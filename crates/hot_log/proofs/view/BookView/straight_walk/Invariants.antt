use Rattle.std.proofs.Common.{◌-◌}
use Rattle.hot_log.specs.Ahead.{AreOnward, IsNextOfBack}
use Rattle.epoch_book.specs.Book.{IsBook}
use Rattle.hot_log.specs.Held.{IsHeld}
use Rattle.hot_log.proofs.Ends.{Climbed}
use Rattle.hot_log.proofs.view.BookView.straight_walk.Given as goal

abbrev pub invariant-loop-next : goal.invariant-loop-next
invariant-loop-next l = record {
  climbed : Climbed l.self.book.now l.self.held.now l.from l.top;
  ahead : AreOnward l.self.book.now l.self.held.now l.top l.left;
  next : IsNextOfBack l.self.book.now l.self.held.now l.top l.next;
  form : IsHeld l.self.held.now;
  book : IsBook l.self.book.now;
}

abbrev pub decreases-loop-next : goal.decreases-loop-next
decreases-loop-next l = 281474976710656 - l.top
