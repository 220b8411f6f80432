use Rattle.std.proofs.Common.{◌≡◌, map, take}
use Rattle.redo_core.specs.declared.facts.Fact.TheVariants.{Advance}
use Rattle.segment_core.specs.Transaction.{began, reached}
use Rattle.segment_core.specs.InOrder.{TakesEach}
use Rattle.segment_core.proofs.importing.take_waits.Given as goal

-- those so far are taken, and what the transaction began with stays
abbrev pub invariant-loop-wait : goal.invariant-loop-wait
invariant-loop-wait l =
    TakesEach (reached l.fn.union) (map Advance (take l.wait-index l.waits)) (reached l.union)
    × (began l.union ≡ began l.fn.union)
