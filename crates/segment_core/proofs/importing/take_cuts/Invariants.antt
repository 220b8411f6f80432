use Rattle.std.proofs.Common.{◌≡◌, map, take}
use Rattle.redo_core.specs.declared.facts.Fact.TheVariants.{Cut}
use Rattle.segment_core.specs.Transaction.{began, reached}
use Rattle.segment_core.specs.InOrder.{TakesEach}
use Rattle.segment_core.proofs.importing.take_cuts.Given as goal

-- those so far are taken, and what the transaction began with stays
abbrev pub invariant-loop-cut : goal.invariant-loop-cut
invariant-loop-cut l =
    TakesEach (reached l.fn.union) (map Cut (take l.cut-index l.cuts)) (reached l.union)
    × (began l.union ≡ began l.fn.union)
