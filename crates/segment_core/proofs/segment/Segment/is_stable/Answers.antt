use Rattle.std.proofs.lemmas.Grind.{common_steps}
use Rattle.std.proofs.Common.{rules, arith}
use Rattle.segment_core.proofs.segment.Segment.is_stable.Goals as goal

pub returns-in-Dead : goal.returns-in-Dead
returns-in-Dead c = search rules

pub returns-in-Waiting : goal.returns-in-Waiting
returns-in-Waiting c = search rules

pub returns-in-Alive : goal.returns-in-Alive
returns-in-Alive c = grind (arith, common_steps)
