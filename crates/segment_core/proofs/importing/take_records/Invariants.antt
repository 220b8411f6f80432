use Rattle.std.proofs.Common.{◌≡◌, map, take}
use Rattle.redo_core.specs.declared.facts.Fact.TheVariants.{Record}
use Rattle.segment_core.specs.Transaction.{began, reached}
use Rattle.segment_core.specs.InOrder.{TakesEach}
use Rattle.segment_core.proofs.importing.take_records.Given as goal

-- those so far are taken, and what the transaction began with stays
abbrev pub invariant-loop-redo : goal.invariant-loop-redo
invariant-loop-redo l =
    TakesEach (reached l.fn.union) (map (λ r. Record r.now) (take l.redo-index l.records)) (reached l.union)
    × (began l.union ≡ began l.fn.union)
