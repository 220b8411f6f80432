use Rattle.std.proofs.lemmas.Grind.{common_steps}
use Rattle.std.proofs.Common.{arith}
use Rattle.std.proofs.KnownBytes.{Consumes-trans}
use Rattle.framing.proofs.Buffers.{taken_more}
use Rattle.framing.proofs.frames.reading.fill.Goals as goal

pub loop-at-preserved : goal.loop-at-preserved
loop-at-preserved g c = grind (arith, common_steps, taken_more, Consumes-trans)

pub returns-in-Ok-eq0-clause-bytes : goal.returns-in-Ok-eq0-clause-bytes
returns-in-Ok-eq0-clause-bytes g c = grind (arith, common_steps)

pub returns-in-Ok-eq0-clause-end : goal.returns-in-Ok-eq0-clause-end
returns-in-Ok-eq0-clause-end g c = grind (arith, common_steps)

pub returns-in-Ok-eq0-clause-bound : goal.returns-in-Ok-eq0-clause-bound
returns-in-Ok-eq0-clause-bound g c = grind (arith, common_steps)
