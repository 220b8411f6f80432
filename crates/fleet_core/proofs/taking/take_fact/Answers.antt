use Rattle.std.proofs.Common.{rules}
use Rattle.fleet_core.proofs.taking.take_fact.Goals as goal

pub returns : goal.returns
returns c = search rules
