use Rattle.std.proofs.Common.{arith}
use Rattle.std.proofs.lemmas.Grind.{common_steps}
use Rattle.redo_wire.proofs.images.read_image.Goals as goal

pub page_of-requires : goal.page_of-requires
page_of-requires c = grind (arith, common_steps)
