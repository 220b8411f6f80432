use Rattle.gossip_core.proofs.OwnMeaning.{every_segment_has_one_meaning}
use Rattle.gossip_core.proofs.laws.every_segment_has_one_meaning.Goals as goal

pub returns : goal.returns
returns c = every_segment_has_one_meaning
