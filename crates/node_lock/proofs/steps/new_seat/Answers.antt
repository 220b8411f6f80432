use Rattle.std.proofs.Common.{rules}
use Rattle.node_lock.specs.Known.{new_parts}
use Rattle.node_lock.proofs.Keeping.{sits}
use Rattle.node_lock.proofs.steps.new_seat.Goals as goal

pub load_new_seat-requires : goal.load_new_seat-requires
load_new_seat-requires g c = (search rules, sits g.S.Trailed.trail g.S.Trailed.keeps c.args.steps.now.key _ 0 (new_parts 0 c.args.steps.now.key))
