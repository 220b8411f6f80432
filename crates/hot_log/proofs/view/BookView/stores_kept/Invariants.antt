use Rattle.std.proofs.Common.{map}
use Rattle.std.specs.Map.Iter.{deref_pair}
use Rattle.hot_log.proofs.Sides.{LeftOf, StoredIn}
use Rattle.hot_log.proofs.view.BookView.stores_kept.Given as goal

-- what of this log is not before what is scanned is left, and this log stores what both keep of that
abbrev pub invariant-loop-key : goal.invariant-loop-key
invariant-loop-key l =
    LeftOf l.self.held.now (map deref_pair l.yielded) l.own
    × StoredIn l.self.book.now l.self.held.now l.point l.lower.book.now l.base (map deref_pair l.yielded)
