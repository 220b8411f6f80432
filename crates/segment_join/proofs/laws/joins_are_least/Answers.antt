use Rattle.segment_join.proofs.Merging.{joins_are_least}
use Rattle.segment_join.proofs.laws.joins_are_least.Goals as goal

pub returns : goal.returns
returns c = joins_are_least c.same_meaning.ensures c.order_by_parts.ensures c.least_upper_bound.ensures
