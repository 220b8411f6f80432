use Rattle.std.proofs.lemmas.Grind.{common_steps}
use Rattle.std.proofs.Common.{rules, arith}
use Rattle.log_law.proofs.breach.advance_breach.Goals as goal

pub returns : goal.returns
returns c = search rules

pub returns-in-Some : goal.returns-in-Some
returns-in-Some c = grind (arith, common_steps)

pub returns-in-Some-cut_below : goal.returns-in-Some-cut_below
returns-in-Some-cut_below c = grind (arith, common_steps)
