use Rattle.std.proofs.Common.{arith}
use Rattle.std.proofs.lemmas.Grind.{common_steps}
use Rattle.segment_core.proofs.segment.Segment.holds_key.Goals as goal

pub returns : goal.returns
returns c = grind (arith, common_steps)
