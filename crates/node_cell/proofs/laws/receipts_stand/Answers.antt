use Rattle.node_cell.proofs.Standing.{each}
use Rattle.node_cell.proofs.laws.receipts_stand.Goals as goal

pub returns : goal.returns
returns c = each
