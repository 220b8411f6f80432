use Rattle.std.proofs.Common.{rules}
use Rattle.node_cell.proofs.node.Node.read_after.Goals as goal

pub returns : goal.returns
returns g c = search rules
