use Rattle.segment_core.proofs.BlockChain.{answers_none}
use Rattle.segment_core.proofs.segment.Segment.broken_of.Goals as goal

pub returns-in-Ok-clause-breaks : goal.returns-in-Ok-clause-breaks
returns-in-Ok-clause-breaks c = answers_none c.args.self.now c.args.page c.args.point (c.is_whole.ensures c.if-is_whole.true)
