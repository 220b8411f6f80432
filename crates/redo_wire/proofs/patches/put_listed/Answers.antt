use Rattle.std.proofs.Common.{arith}
use Rattle.std.proofs.lemmas.Grind.{common_steps}
use Rattle.redo_wire.proofs.patches.put_listed.Goals as goal

pub loop-p-preserved : goal.loop-p-preserved
loop-p-preserved c = grind (arith, common_steps)

pub put_patch-requires : goal.put_patch-requires
put_patch-requires c = grind (arith, common_steps)
