use Rattle.std.proofs.lemmas.Grind.{common_steps}
use Rattle.std.proofs.Common.{rules, arith}
use Rattle.segment_core.proofs.points.Points.with_anchor.Goals as goal

pub returns-then-self : goal.returns-then-self
returns-then-self c = search rules

pub returns-else-self : goal.returns-else-self
returns-else-self c = grind (arith, common_steps)
