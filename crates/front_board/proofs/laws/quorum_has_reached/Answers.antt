use Rattle.front_board.proofs.Counting.{reached_within}
use Rattle.front_board.proofs.laws.quorum_has_reached.Goals as goal

pub returns : goal.returns
returns c = λ log need seen answer nth words views seat rule mine. reached_within need seen words answer nth (rule.within seat seen mine)
