use Rattle.fleet_tool.proofs.PlainDrills.{plain_drill}
use Rattle.fleet_tool.proofs.laws.plain_drill.Goals as goal

pub returns : goal.returns
returns c = plain_drill
