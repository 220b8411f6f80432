use Rattle.redo_core.specs.Data.{RecordData}
use Rattle.hot_log.proofs.Climb.{Rest, above}
use Rattle.hot_log.proofs.view.BookView.alive_key.Given as goal

-- what is left is above the key
abbrev pub invariant-loop-key : goal.invariant-loop-key
invariant-loop-key l = Rest l.self.book.now l.self.held.now (λ (r : RecordData). Unit {0}) l.number l.at

abbrev pub decreases-loop-key : goal.decreases-loop-key
decreases-loop-key l = above l.at l.self.held.now
