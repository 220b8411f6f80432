use Rattle.std.proofs.lemmas.Grind.{common_steps}
use Rattle.std.proofs.Common.{rules, arith}
use Rattle.redo_core.proofs.Plain.{no_fill}
use Rattle.redo_core.proofs.patches.are_just.Goals as goal

pub returns-in_default-2 : goal.returns-in_default-2
returns-in_default-2 c = search (rules, no_fill)

pub returns : goal.returns
returns c = grind (arith, common_steps)

pub loop-i-preserved : goal.loop-i-preserved
loop-i-preserved c = grind (arith, common_steps)

pub returns-then-patches-writes : goal.returns-then-patches-writes
returns-then-patches-writes c = grind (arith, common_steps)

pub returns-in_default : goal.returns-in_default
returns-in_default c = grind (arith, common_steps)
