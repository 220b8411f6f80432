use Rattle.std.proofs.Common.{◌≡◌, [], ◌++◌, map, length}
use Rattle.node_lock.specs.Known.{standing_for, part_of}
use Rattle.node_lock.specs.Passes.{AreIdle}
use Rattle.node_lock.proofs.lock.join_all.Given as goal

abbrev pub invariant-loop-pass : goal.invariant-loop-pass
invariant-loop-pass g l = (l.seat.table_id ≡ l.fn.table.table_id) × (l.seat.me ≡ (standing_for l.fn.table.key l.seat.me.0.parts, []))
    × (l.seat.me.0.parts ++ map part_of l.pass-iterator.rest.items ≡ map part_of l.fn.passes.items)
    × AreIdle l.fn.table.table_id l.pass-iterator.rest.items × (length l.pass-iterator.rest.items ≡ l.pass-iterator.rest.len)
