use Rattle.std.proofs.lemmas.Grind.{common_steps}
use Rattle.std.proofs.Common.{rules, le_refl, arith}
use Rattle.front_board.proofs.Steps.{raise_keeps}
use Rattle.front_board.proofs.board.Board.front.Goals as goal

pub load-word-requires : goal.load-word-requires
load-word-requires g c = (search rules, search rules, raise_keeps g.L.LogName.log _ _ _ _ (λ n. n) (λ n. le_refl n) (λ n front. front))

pub invariant_of-seat : goal.invariant_of-seat
invariant_of-seat g c = grind (arith, common_steps)

pub returns-clause-answer : goal.returns-clause-answer
returns-clause-answer g c = grind (arith, common_steps)
