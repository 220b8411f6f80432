use Rattle.std.proofs.Common.{rules}
use Rattle.front_board.proofs.Choice.{nth}
use Rattle.front_board.proofs.survey.nth_greatest.Goals as goal

pub returns-clause-answer : goal.returns-clause-answer
returns-clause-answer c = search (rules, nth)
