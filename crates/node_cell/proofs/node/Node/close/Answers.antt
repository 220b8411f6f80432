use Rattle.std.proofs.Common.{rules}
use Rattle.node_cell.proofs.node.Node.close.Goals as goal

pub close-requires : goal.close-requires
close-requires g c = search rules

pub returns-clause-lists : goal.returns-clause-lists
returns-clause-lists g c = search rules

pub returns-clause-all : goal.returns-clause-all
returns-clause-all g c = search rules
