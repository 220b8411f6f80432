use Rattle.std.proofs.Common.{arith}
use Rattle.std.proofs.lemmas.Grind.{common_steps}
use Rattle.redo_wire.proofs.records.put_body.Goals as goal

pub returns : goal.returns
returns c = grind (arith, common_steps)

pub overflow_cast-patch_count : goal.overflow_cast-patch_count
overflow_cast-patch_count c = grind (arith, common_steps)
