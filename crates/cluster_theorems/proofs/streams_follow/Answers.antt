use Rattle.cluster_theorems.proofs.Interleaved.{streams_follow}
use Rattle.cluster_theorems.proofs.streams_follow.Goals as goal

pub returns : goal.returns
returns c = streams_follow c.answers_run.ensures c.frames_run.ensures c.states_answer.ensures
