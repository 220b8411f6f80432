use Rattle.std.proofs.lemmas.Grind.{common_steps}
use Rattle.std.proofs.Common.{arith}
use Rattle.framing.proofs.DeviceBytes.{Consumes-done, reads}
use Rattle.framing.proofs.devices.transfer.read_all.Goals as goal

pub returns-in-Ok-eq0-clause-ok : goal.returns-in-Ok-eq0-clause-ok
returns-in-Ok-eq0-clause-ok g c = grind (arith, common_steps, Consumes-done)

pub loop-preserved : goal.loop-preserved
loop-preserved g c = grind (arith, common_steps, reads)

pub returns-in-Ok-eq0-clause-end : goal.returns-in-Ok-eq0-clause-end
returns-in-Ok-eq0-clause-end g c = grind (arith, common_steps, reads)

pub returns-in-Err-clause-errors : goal.returns-in-Err-clause-errors
returns-in-Err-clause-errors g c = grind (arith, common_steps, reads)

pub returns-in-Err-clause-input : goal.returns-in-Err-clause-input
returns-in-Err-clause-input g c = grind (arith, common_steps, reads)

pub returns-in-Ok-eq0-clause-input : goal.returns-in-Ok-eq0-clause-input
returns-in-Ok-eq0-clause-input g c = grind (arith, common_steps, reads)
