use Rattle.std.proofs.Common.{map}
use Rattle.std.specs.Map.Iter.{deref_pair}
use Rattle.hot_log.proofs.Ranges.{ListsAlive}
use Rattle.hot_log.proofs.records.PagedRecords.alive_between.Given as goal

-- the alive of those that the walk has passed
abbrev pub invariant-loop-redo : goal.invariant-loop-redo
invariant-loop-redo l = ListsAlive l.book (map deref_pair l.yielded) (map (λ x. x.now) l.found.items)
