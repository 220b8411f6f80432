use Rattle.std.proofs.Common.{length}
use Rattle.hot_log.proofs.Opening.{AreLater}
use Rattle.hot_log.proofs.view.BookView.opens_below.Given as goal

abbrev pub invariant-loop-key : goal.invariant-loop-key
invariant-loop-key l = AreLater l.self.book.now l.self.held.now l.epoch l.number l.left

abbrev pub decreases-loop-key : goal.decreases-loop-key
decreases-loop-key l = length l.left
