-- A merge transaction: what its segment began with, and how far the segment has come.
use Rattle.segment_theorems.specs.State.{State}
use Rattle.segment_core.specs.Savepoint.{Began, began_by}
use Rattle.segment_core.specs.declared.merge_transaction.MergeTransaction.{MergeTransaction}

-- what the transaction began with, which rolling back leads to
abbrev pub began : MergeTransaction → Began
began t = began_by t.segment.ghost_name t.saved.now t.segment.now

-- the segment as the transaction has made it
abbrev pub reached : MergeTransaction → State
reached t = t.segment.now
