use Rattle.std.proofs.Common.{rules}
use Rattle.segment_core.proofs.segment.Segment.sure_point.Goals as goal

pub returns-then-self-clause-linked : goal.returns-then-self-clause-linked
returns-then-self-clause-linked c = search rules

pub returns-then-self-clause-above : goal.returns-then-self-clause-above
returns-then-self-clause-above c = search rules
