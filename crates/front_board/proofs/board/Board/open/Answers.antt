use Rattle.std.proofs.lemmas.Grind.{common_steps}
use Rattle.std.proofs.Common.{rules, arith}
use Rattle.front_board.proofs.Opening.{open_keeps, zeros_are_fronts}
use Rattle.front_board.proofs.Steps.{split_keeps}
use Rattle.front_board.proofs.board.Board.open.Goals as goal

pub of_words-requires : goal.of_words-requires
of_words-requires g c = search (rules, open_keeps)

pub split_seat-token-requires : goal.split_seat-token-requires
split_seat-token-requires g c = (search rules, search rules, split_keeps g.L.LogName.log _ _)

pub invariant_of-push : goal.invariant_of-push
invariant_of-push g c = grind (arith, common_steps, zeros_are_fronts)

pub loop-preserved : goal.loop-preserved
loop-preserved g c = grind (arith, common_steps)

pub returns-clause-nodes : goal.returns-clause-nodes
returns-clause-nodes g c = grind (arith, common_steps)

pub returns-in_err-push-clause-seats : goal.returns-in_err-push-clause-seats
returns-in_err-push-clause-seats g c = grind (arith, common_steps)

pub returns-in_err-push-clause-nodes : goal.returns-in_err-push-clause-nodes
returns-in_err-push-clause-nodes g c = grind (arith, common_steps)

pub returns-clause-seats : goal.returns-clause-seats
returns-clause-seats g c = grind (arith, common_steps)
