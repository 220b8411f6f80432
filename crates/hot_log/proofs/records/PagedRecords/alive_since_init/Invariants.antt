use Rattle.std.proofs.Common.{map, length}
use Rattle.hot_log.proofs.Descending.{Descends}
use Rattle.hot_log.proofs.records.PagedRecords.alive_since_init.Given as goal

-- the alive of those that the walk has passed
abbrev pub invariant-loop-redo : goal.invariant-loop-redo
invariant-loop-redo l = Descends l.book l.initial.left l.left (map (λ x. x.now) l.found.items)

abbrev pub decreases-loop-redo : goal.decreases-loop-redo
decreases-loop-redo l = length l.left
