use Rattle.segment_join.proofs.Merging.{joins_agree}
use Rattle.segment_join.proofs.laws.joins_agree.Goals as goal

pub returns : goal.returns
returns c = joins_agree c.same_meaning.ensures c.congruence.ensures
