use Rattle.std.proofs.Common.{arith}
use Rattle.std.proofs.lemmas.Grind.{common_steps}
use Rattle.segment_core.proofs.segment.Segment.knows_cut.Goals as goal

pub returns : goal.returns
returns c = grind (arith, common_steps)
