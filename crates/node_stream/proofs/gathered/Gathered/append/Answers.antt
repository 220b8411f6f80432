use Rattle.std.proofs.Common.{arith}
use Rattle.std.proofs.lemmas.Grind.{common_steps}
use Rattle.framing.specs.Frames.{header}
use Rattle.node_stream.proofs.gathered.Gathered.append.Goals as goal

pub returns-clause-bytes : goal.returns-clause-bytes
unfolding header
returns-clause-bytes c = grind (arith, common_steps)
