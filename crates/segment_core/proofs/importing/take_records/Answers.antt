use Rattle.std.proofs.Common.{◌∷◌, [], Bor, subst, arith}
use Rattle.std.proofs.lemmas.Grind.{common_steps}
use Rattle.redo_core.specs.Data.{RecordData}
use Rattle.redo_core.specs.declared.facts.Fact.TheVariants.{Record}
use Rattle.segment_core.specs.Transaction.{reached}
use Rattle.segment_core.specs.InOrder.{RefusesOne}
use Rattle.segment_core.proofs.Ordered.{takes_next, refuses_next, memory_or}
use Rattle.segment_core.proofs.importing.take_records.Goals as goal

pub loop-redo-preserved : goal.loop-redo-preserved
loop-redo-preserved c = grind (arith, common_steps, takes_next)

pub returns-in-Err-clause-refused : goal.returns-in-Err-clause-refused
returns-in-Err-clause-refused c =
    let Refused = λ (r : RecordData). RefusesOne (reached c.loop-redo.union) (Record r ∷ []) c.in-Err.why in
    memory_or c.in-Err.why (Refused c.in_ok-copy.copy) _
    (λ refused.
    refuses_next (λ (r : Bor RecordData). Record r.now) c.args.records.now c.loop-redo.redo-index c.redo-item.result _ _ c.in-Err.why
    c.loop-redo-test.true c.redo-item.is c.loop-redo.invariant.0 (subst Refused c.in_ok-copy.ensures refused))
    c.in-Err.ensures.refused

pub returns-clause-takes : goal.returns-clause-takes
returns-clause-takes c = grind (arith, common_steps)
