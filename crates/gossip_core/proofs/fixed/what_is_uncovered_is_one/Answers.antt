use Rattle.std.proofs.Common.{rules}
use Rattle.gossip_core.proofs.OneUncovered.{one_uncovered}
use Rattle.gossip_core.proofs.fixed.what_is_uncovered_is_one.Goals as goal

pub returns : goal.returns
returns c = search (rules, one_uncovered)
