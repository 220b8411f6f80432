use Rattle.redo_core.specs.Order.{IsRising, RecordBefore}
use Rattle.snapshot.specs.Hydrating.{records_of}
use Rattle.snapshot.proofs.Brought.{AreBelow}
use Rattle.snapshot.proofs.staging.Staging.records.Given as goal

-- the records that the pieces so far contain
abbrev pub invariant-loop-index : goal.invariant-loop-index
invariant-loop-index l = record { members : AreBelow records_of l.self l.index l.records.items; rising : IsRising RecordBefore l.records.items }
