use Rattle.std.proofs.lemmas.Grind.{common_steps}
use Rattle.std.proofs.Common.{rules, arith}
use Rattle.reference_model.proofs.faults.is_kept.Goals as goal

pub returns-then-not-is_begun-clause-law : goal.returns-then-not-is_begun-clause-law
returns-then-not-is_begun-clause-law c = search rules

pub returns-clause-law : goal.returns-clause-law
returns-clause-law c = search rules

pub returns-then-reader-readers-clause-law : goal.returns-then-reader-readers-clause-law
returns-then-reader-readers-clause-law c = grind (arith, common_steps)
