use Rattle.std.proofs.Common.{arith}
use Rattle.std.proofs.lemmas.Grind.{common_steps}
use Rattle.replica.proofs.machine.Replica.step.Goals as goal

pub returns-in-Tidy-clause-refused : goal.returns-in-Tidy-clause-refused
returns-in-Tidy-clause-refused c = grind (arith, common_steps)

pub returns-in-Add-clause-replies : goal.returns-in-Add-clause-replies
returns-in-Add-clause-replies c = grind (arith, common_steps)

pub returns-in-Take-clause-refused : goal.returns-in-Take-clause-refused
returns-in-Take-clause-refused c = grind (arith, common_steps)

pub returns-in-Finish-clause-replies : goal.returns-in-Finish-clause-replies
returns-in-Finish-clause-replies c = grind (arith, common_steps)

pub returns-in-Discard-clause-replies : goal.returns-in-Discard-clause-replies
returns-in-Discard-clause-replies c = grind (arith, common_steps)

pub returns-in-State-clause-replies : goal.returns-in-State-clause-replies
returns-in-State-clause-replies c = grind (arith, common_steps)

pub returns-in-Add-clause-refused : goal.returns-in-Add-clause-refused
returns-in-Add-clause-refused c = grind (arith, common_steps)

pub returns-in-Read-clause-replies : goal.returns-in-Read-clause-replies
returns-in-Read-clause-replies c = grind (arith, common_steps)

pub same-self-in-Answer : goal.same-self-in-Answer
same-self-in-Answer c = grind (arith, common_steps)

pub returns-in-Finish-clause-refused : goal.returns-in-Finish-clause-refused
returns-in-Finish-clause-refused c = grind (arith, common_steps)

pub returns-in-Fold-clause-refused : goal.returns-in-Fold-clause-refused
returns-in-Fold-clause-refused c = grind (arith, common_steps)

pub returns-in-Gap-clause-replies : goal.returns-in-Gap-clause-replies
returns-in-Gap-clause-replies c = grind (arith, common_steps)

pub returns-in-Tidy-clause-replies : goal.returns-in-Tidy-clause-replies
returns-in-Tidy-clause-replies c = grind (arith, common_steps)

pub returns-in-Next-clause-replies : goal.returns-in-Next-clause-replies
returns-in-Next-clause-replies c = grind (arith, common_steps)

pub returns-in-Take-clause-replies : goal.returns-in-Take-clause-replies
returns-in-Take-clause-replies c = grind (arith, common_steps)

pub returns-in-Answer-clause-replies : goal.returns-in-Answer-clause-replies
returns-in-Answer-clause-replies c = grind (arith, common_steps)

pub returns-in-Open-clause-replies : goal.returns-in-Open-clause-replies
returns-in-Open-clause-replies c = grind (arith, common_steps)

pub returns-in-Open-clause-refused : goal.returns-in-Open-clause-refused
returns-in-Open-clause-refused c = grind (arith, common_steps)

pub returns-in-Answer-clause-refused : goal.returns-in-Answer-clause-refused
returns-in-Answer-clause-refused c = grind (arith, common_steps)

pub returns-in-Front-clause-replies : goal.returns-in-Front-clause-replies
returns-in-Front-clause-replies c = grind (arith, common_steps)

pub returns-in-Read-clause-refused : goal.returns-in-Read-clause-refused
returns-in-Read-clause-refused c = grind (arith, common_steps)

pub returns-in-Absorb-clause-replies : goal.returns-in-Absorb-clause-replies
returns-in-Absorb-clause-replies c = grind (arith, common_steps)

pub returns-in-Absorb-clause-refused : goal.returns-in-Absorb-clause-refused
returns-in-Absorb-clause-refused c = grind (arith, common_steps)

pub returns-in-Freeze-clause-replies : goal.returns-in-Freeze-clause-replies
returns-in-Freeze-clause-replies c = grind (arith, common_steps)

pub returns-in-Freeze-clause-refused : goal.returns-in-Freeze-clause-refused
returns-in-Freeze-clause-refused c = grind (arith, common_steps)

pub returns-in-Ask-clause-replies : goal.returns-in-Ask-clause-replies
returns-in-Ask-clause-replies c = grind (arith, common_steps)

pub returns-in-Discard-clause-refused : goal.returns-in-Discard-clause-refused
returns-in-Discard-clause-refused c = grind (arith, common_steps)

pub returns-in-Stage-clause-replies : goal.returns-in-Stage-clause-replies
returns-in-Stage-clause-replies c = grind (arith, common_steps)

pub returns-in-Fold-clause-replies : goal.returns-in-Fold-clause-replies
returns-in-Fold-clause-replies c = grind (arith, common_steps)

pub returns-in-Piece-clause-replies : goal.returns-in-Piece-clause-replies
returns-in-Piece-clause-replies c = grind (arith, common_steps)

pub returns-in-Stage-clause-refused : goal.returns-in-Stage-clause-refused
returns-in-Stage-clause-refused c = grind (arith, common_steps)
