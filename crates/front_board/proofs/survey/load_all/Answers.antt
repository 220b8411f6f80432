use Rattle.std.proofs.lemmas.Grind.{common_steps}
use Rattle.std.proofs.Common.{rules, le_refl, arith}
use Rattle.front_board.proofs.Steps.{raise_keeps}
use Rattle.front_board.proofs.survey.load_all.Goals as goal

pub load-requires : goal.load-requires
load-requires g c = (search rules, search rules, raise_keeps g.L.LogName.log _ _ _ _ (λ n. n) (λ n. le_refl n) (λ n front. front))

pub loop-node-init : goal.loop-node-init
loop-node-init g c = grind (arith, common_steps)

pub loop-node-preserved : goal.loop-node-preserved
loop-node-preserved g c = grind (arith, common_steps)

pub returns-clause-surveyed : goal.returns-clause-surveyed
returns-clause-surveyed g c = grind (arith, common_steps)
