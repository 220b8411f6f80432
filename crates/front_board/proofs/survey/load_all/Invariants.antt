use Rattle.std.proofs.Common.{◌≡◌, length}
use Rattle.front_board.specs.Survey.{IsSurveyed}
use Rattle.front_board.proofs.survey.load_all.Given as goal

abbrev pub invariant-loop-node : goal.invariant-loop-node
invariant-loop-node g l = (l.token.table_id ≡ l.fn.token.table_id) × (l.token.me.1 ≡ l.fn.token.me.1) × (length l.words ≡ length l.fn.words)
    × IsSurveyed g.L.LogName.log l.node l.fn.token.me.0 l.token.me.0 l.words
