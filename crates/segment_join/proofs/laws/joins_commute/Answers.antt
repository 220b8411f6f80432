use Rattle.segment_join.proofs.Merging.{joins_commute}
use Rattle.segment_join.proofs.laws.joins_commute.Goals as goal

pub returns : goal.returns
returns c = joins_commute c.same_meaning.ensures c.commutativity.ensures
