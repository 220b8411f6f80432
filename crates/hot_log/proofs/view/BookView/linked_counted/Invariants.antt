use Rattle.std.proofs.Common.{◌≡◌, ◌+◌, ◌-◌, ◌*◌, length, false}
use Rattle.hot_log.specs.Held.{IsHeld}
use Rattle.hot_log.proofs.Forks.{Search, IsAlone}
use Rattle.hot_log.proofs.view.BookView.linked_counted.Given as goal

-- the search is at a linked LSN; where no fork was passed, it reaches nothing more by climbing
abbrev pub invariant-loop-key : goal.invariant-loop-key
invariant-loop-key l = record {
  search : IsHeld l.self.held.now → Search l.self.book.now l.self.held.now l.from l.limit l.back l.at l.top l.steps.count;
  alone : IsHeld l.self.held.now → l.forked ≡ false → IsAlone l.self.book.now l.self.held.now l.from l.back;
}

-- each iteration visits one more record, or climbs
abbrev pub decreases-loop-key : goal.decreases-loop-key
decreases-loop-key l = (length l.self.held.now - l.steps.count) * (l.limit + 1) + l.back
