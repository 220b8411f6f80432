use Rattle.std.proofs.Common.{length, drop}
use Rattle.segment_core.specs.Restoring.{GainsRest}
use Rattle.segment_core.proofs.restoring.hold_all.Given as goal

-- the rest of the records is still to be inserted
abbrev pub invariant-loop-redo : goal.invariant-loop-redo
invariant-loop-redo l =
    (goal.iterator-loop-redo).can_next l.redo-iterator ×
    (goal.iterator-loop-redo).is_finite l.redo-iterator ×
    GainsRest l.fn.hot l.fn.records.items l.hot (drop (length l.yielded) l.fn.records.items)
