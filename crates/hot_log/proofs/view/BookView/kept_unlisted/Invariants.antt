use Rattle.std.proofs.Common.{length, map}
use Rattle.redo_core.specs.Order.{Lists, RecordBefore}
use Rattle.redo_core.specs.declared.keys.Key.{Key}
use Rattle.hot_log.specs.Indexing.{AreHeldAbove}
use Rattle.hot_log.specs.Kept.{IsKeptUnlisted}
use Rattle.hot_log.proofs.Walk.{IsPassedBy}
use Rattle.hot_log.proofs.view.BookView.kept_unlisted.Given as goal

-- those of the keys so far
abbrev pub invariant-loop-key : goal.invariant-loop-key
invariant-loop-key l = (at : Key) × AreHeldAbove l.self.held.now at l.left × Lists RecordBefore (IsPassedBy (IsKeptUnlisted l.self.book.now l.self.held.now l.point l.keys) at) (map (λ r. r.now) l.found.items)

abbrev pub decreases-loop-key : goal.decreases-loop-key
decreases-loop-key l = length l.left
