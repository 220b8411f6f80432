use Rattle.std.proofs.Common.{rules}
use Rattle.segment_core.proofs.segment.Segment.stands.Goals as goal

pub returns : goal.returns
returns c = search rules
