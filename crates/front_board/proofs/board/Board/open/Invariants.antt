use Rattle.std.proofs.Common.{◌≡◌, [], replicate}
use Rattle.front_board.specs.Seat.{new_seat}
use Rattle.front_board.proofs.board.Board.open.Given as goal

abbrev pub invariant-loop : goal.invariant-loop
invariant-loop g l = (l.first.me ≡ (replicate l.fn.nodes 0, [])) × (l.first.table_id ≡ l.table.shared.table_id) × (l.table.shared.table_id.words ≡ l.fn.nodes)
    × (l.made.items ≡ replicate l.counter (new_seat l.table.shared.table_id l.fn.nodes))
