use Rattle.std.proofs.lemmas.Grind.{common_steps}
use Rattle.std.proofs.Common.{rules, sym, ap, ◌∙◌, ◌∷◌, Some, arith}
use Rattle.atomic_table.specs.Table.{rest}
use Rattle.node_lock.proofs.Keeping.{tries}
use Rattle.node_lock.proofs.steps.take.Goals as goal

pub compare_exchange-requires : goal.compare_exchange-requires
compare_exchange-requires g c = (search rules, search rules, tries g.S.Trailed.trail g.S.Trailed.keeps c.args.steps.now.key _ _ _)

pub exchange-requires : goal.exchange-requires
exchange-requires g c = let t = c.compare_exchange.ensures.2.0 (search rules) in
    (search rules, (Some t.0, ap (λ m. m.1) t.1 ∙ ap (λ cs. (0, Some t.0) ∷ rest cs) (sym (ap (λ m. m.1) t.1))))

pub unreachable-requires : goal.unreachable-requires
unreachable-requires g c = grind (arith, common_steps)

pub returns-then-compare_exchange-eq0-clause-seat : goal.returns-then-compare_exchange-eq0-clause-seat
returns-then-compare_exchange-eq0-clause-seat g c = grind (arith, common_steps)

pub returns-then-compare_exchange-eq0-clause-state : goal.returns-then-compare_exchange-eq0-clause-state
returns-then-compare_exchange-eq0-clause-state g c = grind (arith, common_steps)

pub unreachable-unreachable : goal.unreachable-unreachable
unreachable-unreachable g c = grind (arith, common_steps)

pub returns-then-compare_exchange-eq0-clause-lists : goal.returns-then-compare_exchange-eq0-clause-lists
returns-then-compare_exchange-eq0-clause-lists g c = grind (arith, common_steps)

pub loop-preserved-then-wait : goal.loop-preserved-then-wait
loop-preserved-then-wait g c = grind (arith, common_steps)

pub loop-preserved : goal.loop-preserved
loop-preserved g c = grind (arith, common_steps)

pub unwrap-requires : goal.unwrap-requires
unwrap-requires g c = grind (arith, common_steps)

pub wait-requires : goal.wait-requires
wait-requires g c = grind (arith, common_steps)
