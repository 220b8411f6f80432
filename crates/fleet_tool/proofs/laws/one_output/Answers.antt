use Rattle.fleet_tool.proofs.OneText.{one_output}
use Rattle.fleet_tool.proofs.laws.one_output.Goals as goal

pub returns : goal.returns
returns c = one_output
