use Rattle.std.proofs.Common.{arith}
use Rattle.std.proofs.lemmas.Grind.{common_steps}
use Rattle.fleet_drill.proofs.settling.close_all.Goals as goal

pub returns : goal.returns
returns g c = grind (arith, common_steps)
