use Rattle.std.proofs.lemmas.Grind.{common_steps}
use Rattle.std.proofs.Common.{subst, sym, arith}
use Rattle.front_board.specs.NthGreatest.{IsNthGreatest}
use Rattle.front_board.proofs.Counting.{reached_within}
use Rattle.front_board.specs.FrontWord.{word_of}
use Rattle.front_board.proofs.board.Board.quorum.Goals as goal

pub returns-clause-reached : goal.returns-clause-reached
returns-clause-reached g c = λ words views seat rule mine.
    reached_within c.args.need c.survey-word.new.token.me.0 words (word_of c.of_word.result)
    (subst (IsNthGreatest c.args.need c.survey-word.new.token.me.0) (sym c.of_word.ensures.value) c.survey-word.ensures.answer)
    (rule.within seat c.survey-word.new.token.me.0 mine)

pub returns-clause-answer : goal.returns-clause-answer
returns-clause-answer g c = grind (arith, common_steps)

pub returns-clause-grows : goal.returns-clause-grows
returns-clause-grows g c = grind (arith, common_steps)

pub invariant_of-seat : goal.invariant_of-seat
invariant_of-seat g c = grind (arith, common_steps)

pub returns-clause-length : goal.returns-clause-length
returns-clause-length g c = grind (arith, common_steps)
