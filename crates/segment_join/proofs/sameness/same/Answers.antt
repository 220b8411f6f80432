use Rattle.segment_join.proofs.Agreeing.{by_parts}
use Rattle.segment_join.proofs.sameness.same.Goals as goal

pub returns-in-Ok-clause-parts : goal.returns-in-Ok-clause-parts
returns-in-Ok-clause-parts c = by_parts c.same_meaning.ensures c.args.one.now c.args.other.now c.in-Ok.answer c.in-Ok.ensures
