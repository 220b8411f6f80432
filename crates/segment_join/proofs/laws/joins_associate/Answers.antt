use Rattle.segment_join.proofs.Merging.{joins_associate}
use Rattle.segment_join.proofs.laws.joins_associate.Goals as goal

pub returns : goal.returns
returns c = joins_associate c.same_meaning.ensures c.associativity.ensures
