use Rattle.redo_core.specs.Data.{RecordData}
use Rattle.hot_log.proofs.Climb.{up_to}
use Rattle.hot_log.proofs.Descent.{Under}
use Rattle.hot_log.proofs.view.BookView.last_alive.Given as goal

-- what is left is at or below the key
abbrev pub invariant-loop-key : goal.invariant-loop-key
invariant-loop-key l = Under l.self.book.now l.self.held.now (λ (r : RecordData). Unit {0}) l.to l.at

abbrev pub decreases-loop-key : goal.decreases-loop-key
decreases-loop-key l = up_to l.at l.self.held.now
