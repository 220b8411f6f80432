use Rattle.std.proofs.Common.{arith}
use Rattle.std.proofs.lemmas.Grind.{common_steps}
use Rattle.fleet_drill.proofs.telling.put_all.Goals as goal

pub bounds-joined-before : goal.bounds-joined-before
bounds-joined-before g c = grind (arith, common_steps)

pub offset_bounds-joined-before : goal.offset_bounds-joined-before
offset_bounds-joined-before g c = grind (arith, common_steps)

pub loop-page-preserved : goal.loop-page-preserved
loop-page-preserved g c = grind (arith, common_steps)

pub loop-before-preserved : goal.loop-before-preserved
loop-before-preserved g c = grind (arith, common_steps)
