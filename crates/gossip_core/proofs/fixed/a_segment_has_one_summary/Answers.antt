use Rattle.gossip_core.proofs.OneReply.{one_summary}
use Rattle.gossip_core.proofs.fixed.a_segment_has_one_summary.Goals as goal

pub returns : goal.returns
returns c = one_summary c.args.segment.now c.in_ok-one.one c.in_ok-other.other c.in_ok-one.ensures.own c.in_ok-other.ensures.own
