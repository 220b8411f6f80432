use Rattle.std.proofs.Common.{rules}
use Rattle.log_law.proofs.Least.{least_of_log}
use Rattle.log_law.proofs.links.first_broken_link.Goals as goal

pub returns : goal.returns
returns c = search (rules, least_of_log)
