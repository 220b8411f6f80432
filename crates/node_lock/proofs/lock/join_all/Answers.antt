use Rattle.std.proofs.Common.{rules, arith}
use Rattle.std.proofs.lemmas.Grind.{common_steps}
use Rattle.node_lock.proofs.lock.join_all.Goals as goal

pub loop-pass-init : goal.loop-pass-init
loop-pass-init g c = grind (arith, common_steps)

pub join-requires-clause-table : goal.join-requires-clause-table
join-requires-clause-table g c = search rules

pub join-requires-clause-idle : goal.join-requires-clause-idle
join-requires-clause-idle g c = grind (arith, common_steps)

pub loop-pass-preserved : goal.loop-pass-preserved
loop-pass-preserved g c = grind (arith, common_steps)

pub returns : goal.returns
returns g c = grind (arith, common_steps)
