use Rattle.std.proofs.Common.{arith}
use Rattle.std.proofs.lemmas.Grind.{common_steps}
use Rattle.reference_model.proofs.comparing.covers_at.Goals as goal

pub returns-then-not-are_at_most : goal.returns-then-not-are_at_most
returns-then-not-are_at_most c = grind (arith, common_steps)

pub returns-then-below-above : goal.returns-then-below-above
returns-then-below-above c = grind (arith, common_steps)

pub returns : goal.returns
returns c = grind (arith, common_steps)
