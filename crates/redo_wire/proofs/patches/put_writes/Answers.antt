use Rattle.std.proofs.Common.{arith}
use Rattle.std.proofs.lemmas.Grind.{common_steps}
use Rattle.redo_wire.proofs.patches.put_writes.Goals as goal

pub loop-w-preserved : goal.loop-w-preserved
loop-w-preserved c = grind (arith, common_steps)

pub put_write-requires : goal.put_write-requires
put_write-requires c = grind (arith, common_steps)
