use Rattle.std.proofs.Common.{arith}
use Rattle.named_log.proofs.Fronts.{front_below_cut}
use Rattle.call_cases.proofs.node_calls.board.late.Goals as goal

pub new-requires : goal.new-requires
new-requires c = front_below_cut 2 c.args.number (omega arith) (omega arith) c.requires
