use Rattle.std.proofs.Common.{rules}
use Rattle.segment_core.proofs.merge_transaction.MergeTransaction.take.Goals as goal

pub returns-in-Cut-clause-takes : goal.returns-in-Cut-clause-takes
returns-in-Cut-clause-takes c = search rules

pub returns-in-Advance-clause-takes : goal.returns-in-Advance-clause-takes
returns-in-Advance-clause-takes c = search rules
