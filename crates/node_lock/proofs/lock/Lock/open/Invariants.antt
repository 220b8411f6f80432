use Rattle.std.proofs.Common.{◌≡◌, ◌-◌, ◌≤◌, [], length, vec_capacity}
use Rattle.node_lock.specs.Known.{standing_for, new_parts}
use Rattle.node_lock.specs.Passes.{AreIdle, AreNew}
use Rattle.node_lock.proofs.lock.Lock.open.Given as goal

abbrev pub invariant-loop-number : goal.invariant-loop-number
invariant-loop-number g l = (l.seat.table_id ≡ l.table.shared.table_id)
    × (l.seat.me ≡ (standing_for l.fn.passes (new_parts l.number (l.fn.passes - l.number)), []))
    × (length l.dealt.items ≡ l.number) × AreIdle l.table.shared.table_id l.dealt.items × AreNew 0 l.dealt.items × (l.fn.passes ≤ vec_capacity l.dealt)
