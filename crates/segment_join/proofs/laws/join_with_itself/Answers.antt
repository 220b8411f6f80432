use Rattle.segment_join.proofs.Merging.{join_with_itself}
use Rattle.segment_join.proofs.laws.join_with_itself.Goals as goal

pub returns : goal.returns
returns c = join_with_itself c.same_meaning.ensures c.idempotence.ensures
