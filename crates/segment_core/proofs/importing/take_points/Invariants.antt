use Rattle.std.proofs.Common.{◌≡◌, take}
use Rattle.segment_core.specs.Exported.{point_facts}
use Rattle.segment_core.specs.Transaction.{began, reached}
use Rattle.segment_core.specs.InOrder.{TakesEach}
use Rattle.segment_core.proofs.importing.take_points.Given as goal

-- those so far are taken, and what the transaction began with stays
abbrev pub invariant-loop-place : goal.invariant-loop-place
invariant-loop-place l =
    TakesEach (reached l.fn.union) (point_facts l.epoch 1 (take l.place l.points)) (reached l.union)
    × (began l.union ≡ began l.fn.union)
