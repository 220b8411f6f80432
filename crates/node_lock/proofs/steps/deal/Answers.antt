use Rattle.std.proofs.Common.{rules}
use Rattle.node_lock.proofs.Keeping.{splits}
use Rattle.node_lock.proofs.steps.deal.Goals as goal

pub split_seat-requires : goal.split_seat-requires
split_seat-requires g c = (search rules, search rules, splits g.S.Trailed.trail g.S.Trailed.keeps c.args.steps.now.key _ _ c.requires.idle.0)
