use Rattle.std.proofs.Common.{map}
use Rattle.std.specs.Map.Iter.{deref_pair}
use Rattle.std.specs.Prelude.{IfSome}
use Rattle.hot_log.specs.Spans.{IsSpan}
use Rattle.hot_log.proofs.Kept.{ListsKept}
use Rattle.hot_log.proofs.key_records.KeyRecords.kept_keys.Given as goal

-- those so far of the keys that the walk has passed
abbrev pub invariant-loop-key : goal.invariant-loop-key
invariant-loop-key l = ListsKept l.book l.point (map deref_pair l.yielded) l.kept.items × IfSome l.span (IsSpan l.book l.point)
