use Rattle.segment_theorems.proofs.AnswersAs.{states_answer}
use Rattle.segment_theorems.proofs.states_answer.Goals as goal

pub returns : goal.returns
returns c = states_answer c.same_position.ensures c.true_pages.ensures c.same_meaning.ensures
