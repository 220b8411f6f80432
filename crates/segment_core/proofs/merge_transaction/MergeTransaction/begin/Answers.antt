use Rattle.std.proofs.Common.{rules}
use Rattle.segment_core.proofs.Savepoints.{began_here}
use Rattle.segment_core.proofs.merge_transaction.MergeTransaction.begin.Goals as goal

pub returns-clause-began : goal.returns-clause-began
returns-clause-began c = began_here c.args.saved.now c.args.segment.now c.requires.book c.requires.came

pub returns-clause-whole : goal.returns-clause-whole
returns-clause-whole c = search (rules, began_here)
