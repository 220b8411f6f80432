use Rattle.std.proofs.Common.{rules}
use Rattle.segment_core.proofs.DuePages.{top_is}
use Rattle.segment_core.proofs.pending.top_of.Goals as goal

pub returns : goal.returns
returns c = search (rules, top_is)
