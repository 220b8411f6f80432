use Rattle.std.proofs.lemmas.Grind.{common_steps}
use Rattle.std.proofs.Common.{sym, ap, subst, arith}
use Rattle.std.proofs.lemmas.List.{length-map}
use Rattle.node_lock.specs.Passes.{AreIdle}
use Rattle.node_lock.proofs.Passes.{are_true, count_is}
use Rattle.node_lock.proofs.lock.Lock.close.Goals as goal

pub join_all-seat-requires-clause-idle : goal.join_all-seat-requires-clause-idle
join_all-seat-requires-clause-idle g c = subst (λ l. AreIdle l c.args.passes.items) (sym (ap (λ l. l.id) c.self.view_is)) c.requires

pub returns-clause-lists : goal.returns-clause-lists
returns-clause-lists g c = grind (arith, common_steps, are_true)

pub returns-clause-all : goal.returns-clause-all
returns-clause-all g c = grind (arith, common_steps, count_is, length-map)
