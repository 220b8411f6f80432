use Rattle.std.proofs.Common.{rules}
use Rattle.log_law.proofs.Written.{written_nothing}
use Rattle.log_law.proofs.writer.Writer.new.Goals as goal

pub invariant_of-result : goal.invariant_of-result
invariant_of-result c = search (rules, written_nothing)
