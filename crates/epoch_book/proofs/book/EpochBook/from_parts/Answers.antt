use Rattle.std.proofs.lemmas.Grind.{common_steps}
use Rattle.std.proofs.Common.{sym, subst, arith}
use Rattle.redo_core.specs.CompleteEpoch.{HasCutsTo}
use Rattle.redo_core.proofs.CompleteEpochs.{has_cuts}
use Rattle.epoch_book.proofs.book.EpochBook.from_parts.Goals as goal

pub raise-requires-clause-known : goal.raise-requires-clause-known
raise-requires-clause-known c =
    subst (λ cs. HasCutsTo cs c.args.complete) (sym c.deref.ensures.value) (has_cuts c.args.cuts.items c.args.complete c.requires.complete)

pub invariant_of-result : goal.invariant_of-result
invariant_of-result c = grind (arith, common_steps)

pub raise-requires-clause-before : goal.raise-requires-clause-before
raise-requires-clause-before c = grind (arith, common_steps)
