use Rattle.std.proofs.Common.{map}
use Rattle.std.specs.Map.Iter.{deref_pair}
use Rattle.hot_log.proofs.Sides.{LacksOf, LeftOf}
use Rattle.hot_log.proofs.log.HotLog.missing.Given as goal

-- what of this log is not before what is scanned is left, and what the other log has so far and this one lacks has been found
abbrev pub invariant-loop-key : goal.invariant-loop-key
invariant-loop-key l =
    LeftOf l.self (map deref_pair l.yielded) l.own
    × LacksOf l.self (map deref_pair l.yielded) (map (λ x. x.now) l.missing.items)
