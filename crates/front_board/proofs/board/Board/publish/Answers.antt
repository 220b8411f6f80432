use Rattle.std.proofs.lemmas.Grind.{common_steps}
use Rattle.std.proofs.Common.{rules, max, arith}
use Rattle.front_board.proofs.Steps.{raise_keeps, max_above, max_is_front, fronts_after_raise}
use Rattle.front_board.proofs.board.Board.publish.Goals as goal

pub fetch_max-requires : goal.fetch_max-requires
fetch_max-requires g c = (
  search rules,
  search rules,
  raise_keeps g.L.LogName.log _ _ _ _ (λ n. max n c.word.result) (λ n. max_above n c.word.result)
      (λ n front. max_is_front g.L.LogName.log n c.word.result c.word.ensures.front front),
)

pub invariant_of-seat : goal.invariant_of-seat
invariant_of-seat g c = grind (arith, common_steps, fronts_after_raise)

pub returns-clause-raised : goal.returns-clause-raised
returns-clause-raised g c = grind (arith, common_steps)

pub returns-clause-fronts : goal.returns-clause-fronts
returns-clause-fronts g c = grind (arith, common_steps, fronts_after_raise)

pub returns-clause-grows : goal.returns-clause-grows
returns-clause-grows g c = grind (arith, common_steps)

pub returns-clause-reached : goal.returns-clause-reached
returns-clause-reached g c = grind (arith, common_steps)
