use Rattle.std.proofs.Common.{rules}
use Rattle.node_lock.proofs.Receipts.{has_receipts}
use Rattle.node_lock.proofs.pass.Pass.take.Goals as goal

pub returns-clause-has : goal.returns-clause-has
returns-clause-has g c = search (rules, has_receipts)
