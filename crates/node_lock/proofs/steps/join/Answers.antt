use Rattle.std.proofs.Common.{rules}
use Rattle.node_lock.proofs.Keeping.{joins}
use Rattle.node_lock.proofs.steps.join.Goals as goal

pub join_seat-requires : goal.join_seat-requires
join_seat-requires g c = search (rules, joins)
