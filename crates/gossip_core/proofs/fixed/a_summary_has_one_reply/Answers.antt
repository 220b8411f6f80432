use Rattle.std.proofs.Common.{rules}
use Rattle.gossip_core.proofs.OneReply.{one_reply}
use Rattle.gossip_core.proofs.fixed.a_summary_has_one_reply.Goals as goal

pub returns : goal.returns
returns c = search (rules, one_reply)
