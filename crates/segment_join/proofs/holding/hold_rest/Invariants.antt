use Rattle.std.proofs.Common.{◌≡◌, map}
use Rattle.segment_core.specs.Transaction.{began, reached}
use Rattle.segment_join.proofs.Sparing.{HoldsFirst}
use Rattle.segment_join.proofs.holding.hold_rest.Given as goal

-- the missing records so far are stored, or spared, and what the transaction began with stays
abbrev pub invariant-loop-redo : goal.invariant-loop-redo
invariant-loop-redo l =
    HoldsFirst (map (λ x. x.now) l.missing) l.redo-index (reached l.fn.union) l.other (reached l.union)
    × (began l.union ≡ began l.fn.union)
