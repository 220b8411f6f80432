use Rattle.std.proofs.Common.{refl, rules}
use Rattle.reference_model.proofs.CountedCuts.{alive_in_own}
use Rattle.reference_model.proofs.faults.has_begun.Goals as goal

pub returns-then-not-is_begun-clause-law : goal.returns-then-not-is_begun-clause-law
returns-then-not-is_begun-clause-law c = search rules

pub returns-clause-law : goal.returns-clause-law
returns-clause-law c =
    let both = alive_in_own c.args.log.now c.args.redo.now c.epoch-epoch.result c.number-number.result c.epoch-epoch.ensures c.number-number.ensures.value
    (c.if-not-is_begun.ensures.0 refl) in
    (λ t. both.0 (c.is_alive_by_counted.ensures.0 t), λ law. c.is_alive_by_counted.ensures.1 (both.1 law))
