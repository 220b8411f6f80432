use Rattle.node_stream.proofs.Turns as turns
use Rattle.node_stream.proofs.laws.plainly_run.Goals as goal

pub returns : goal.returns
returns c = turns.plainly_run
