use Rattle.std.proofs.Common.{rules}
use Rattle.fleet_tool.proofs.run.run_text.Goals as goal

pub returns : goal.returns
returns g c = search rules
