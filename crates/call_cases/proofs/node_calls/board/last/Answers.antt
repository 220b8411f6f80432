use Rattle.std.proofs.Common.{arith}
use Rattle.named_log.proofs.Fronts.{front_of_epoch_1}
use Rattle.call_cases.proofs.node_calls.board.last.Goals as goal

pub new-requires : goal.new-requires
new-requires c = front_of_epoch_1 2 (omega arith) (omega arith)
