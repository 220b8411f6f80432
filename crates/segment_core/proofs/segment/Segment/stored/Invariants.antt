use Rattle.std.proofs.Common.{◌-◌, length}
use Rattle.segment_core.proofs.Keys.{KeysTo}
use Rattle.segment_core.proofs.segment.Segment.stored.Given as goal

-- the keys so far are those of the first records, and the next is that of the one after them
abbrev pub invariant-loop-next : goal.invariant-loop-next
invariant-loop-next l = KeysTo l.self.held l.keys.items l.next

abbrev pub decreases-loop-next : goal.decreases-loop-next
decreases-loop-next l = length l.self.held - length l.keys.items
