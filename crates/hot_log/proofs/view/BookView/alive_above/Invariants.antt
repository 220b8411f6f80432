use Rattle.std.proofs.Common.{◌≡◌}
use Rattle.redo_core.specs.Data.{RecordData}
use Rattle.hot_log.proofs.Climb.{Rest, above}
use Rattle.hot_log.proofs.view.BookView.alive_above.Given as goal

-- what is left is above the key
abbrev pub invariant-loop-redo : goal.invariant-loop-redo
invariant-loop-redo l = Rest l.self.book.now l.self.held.now (λ (r : RecordData). r.page ≡ l.page) l.number l.at

abbrev pub decreases-loop-redo : goal.decreases-loop-redo
decreases-loop-redo l = above l.at l.self.held.now
