use Rattle.std.proofs.Common.{rules}
use Rattle.segment_core.proofs.segment.Segment.records_of.Goals as goal

pub returns : goal.returns
returns c = search rules
