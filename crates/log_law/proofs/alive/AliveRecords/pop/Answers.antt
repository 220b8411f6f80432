use Rattle.std.proofs.lemmas.Grind.{common_steps}
use Rattle.std.proofs.Common.{set, sym, ap, arith}
use Rattle.log_law.specs.Alive.{without_top}
use Rattle.log_law.proofs.Tops.{on_top, stack_popped}
use Rattle.log_law.proofs.alive.AliveRecords.pop.Goals as goal

pub returns-in-Some-clause-stack : goal.returns-in-Some-clause-stack
returns-in-Some-clause-stack c =
    stack_popped c.args.self.now _ c.in-Some.entry c.requires c.in-Some.ensures.items
    (ap (λ i. set c.args.self.now.page_tops.items i c.in-Some.entry.beneath) c.from.ensures)

pub returns-in-Some-clause-rest : goal.returns-in-Some-clause-rest
returns-in-Some-clause-rest c =
    sym (ap without_top (on_top c.pop.new.self.items c.args.self.now.entries.items c.in-Some.entry c.in-Some.ensures.items))

pub returns-in_default-clause-stack : goal.returns-in_default-clause-stack
returns-in_default-clause-stack c = grind (arith, common_steps)
