use Rattle.std.proofs.Common.{rules}
use Rattle.node_lock.proofs.turn.Turn.post.Goals as goal

pub post-requires-clause-trail : goal.post-requires-clause-trail
post-requires-clause-trail g c = search rules

pub returns : goal.returns
returns g c = search rules
