use Rattle.std.proofs.Common.{arith}
use Rattle.std.proofs.lemmas.Grind.{common_steps}
use Rattle.fleet_drill.proofs.floor.open_stand.Goals as goal

pub same-seat : goal.same-seat
same-seat g c = grind (arith, common_steps)

pub same-node : goal.same-node
same-node g c = grind (arith, common_steps)

pub returns-clause-inlet : goal.returns-clause-inlet
returns-clause-inlet g c = grind (arith, common_steps)

pub unreachable-requires : goal.unreachable-requires
unreachable-requires g c = grind (arith, common_steps)

pub returns-clause-node : goal.returns-clause-node
returns-clause-node g c = grind (arith, common_steps)
