use Rattle.std.proofs.Common.{arith}
use Rattle.std.proofs.lemmas.Grind.{common_steps}
use Rattle.script_text.proofs.encoding.put_patches.Goals as goal

pub loop-patch-preserved : goal.loop-patch-preserved
loop-patch-preserved c = grind (arith, common_steps)
