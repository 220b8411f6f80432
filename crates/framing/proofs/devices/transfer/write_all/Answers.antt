use Rattle.std.proofs.lemmas.Grind.{common_steps}
use Rattle.std.proofs.Common.{rules, arith}
use Rattle.framing.proofs.DeviceBytes.{Appends-more, writes}
use Rattle.framing.proofs.devices.transfer.write_all.Goals as goal

pub loop-at-preserved : goal.loop-at-preserved
loop-at-preserved g c = search (rules, Appends-more)

pub returns-in_default-clause-failed : goal.returns-in_default-clause-failed
returns-in_default-clause-failed g c = grind (arith, common_steps, writes)

pub returns-then-flush-clause-ok : goal.returns-then-flush-clause-ok
returns-then-flush-clause-ok g c = grind (arith, common_steps, writes)

pub returns-else-flush-clause-part : goal.returns-else-flush-clause-part
returns-else-flush-clause-part g c = grind (arith, common_steps, writes)

pub loop-at-smaller : goal.loop-at-smaller
loop-at-smaller g c = grind (arith, common_steps, writes)

pub returns-in_default-clause-part : goal.returns-in_default-clause-part
returns-in_default-clause-part g c = grind (arith, common_steps, writes)
