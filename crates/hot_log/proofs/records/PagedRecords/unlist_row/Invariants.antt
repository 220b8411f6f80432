use Rattle.std.proofs.Common.{map}
use Rattle.std.specs.Map.Iter.{deref_pair}
use Rattle.hot_log.proofs.Rows.{Rowed}
use Rattle.hot_log.proofs.records.PagedRecords.unlist_row.Given as goal

-- the run so far of those that the walk has passed
abbrev pub invariant-loop-redo : goal.invariant-loop-redo
invariant-loop-redo l = Rowed l.book l.self l.fn.above (map deref_pair l.yielded) l.start l.last l.by_key
