use Rattle.text.proofs.FirstPart.{first_is}
use Rattle.node_stream.proofs.frame_requests.first_space.Goals as goal

pub returns-clause-place : goal.returns-clause-place
returns-clause-place c = first_is 32 c.args.text.now c.memchr.result c.memchr.ensures
