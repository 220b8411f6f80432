use Rattle.std.proofs.Common.{rules}
use Rattle.segment_core.proofs.segment.Segment.knows_advance.Goals as goal

pub returns : goal.returns
returns c = search rules
