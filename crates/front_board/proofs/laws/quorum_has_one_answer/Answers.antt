use Rattle.front_board.proofs.Counting.{nth_greatest_unique}
use Rattle.front_board.proofs.laws.quorum_has_one_answer.Goals as goal

pub returns : goal.returns
returns c = nth_greatest_unique
