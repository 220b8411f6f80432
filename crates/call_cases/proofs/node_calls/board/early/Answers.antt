use Rattle.std.proofs.Common.{arith}
use Rattle.named_log.proofs.Fronts.{front_of_epoch_0}
use Rattle.call_cases.proofs.node_calls.board.early.Goals as goal

pub new-requires : goal.new-requires
new-requires c = front_of_epoch_0 2 c.args.number (omega arith) (omega arith) c.requires
