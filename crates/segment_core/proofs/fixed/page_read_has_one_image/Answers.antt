use Rattle.segment_core.proofs.SamePages.{shows_one}
use Rattle.std.proofs.Common.{arith}
use Rattle.std.proofs.lemmas.Grind.{common_steps}
use Rattle.segment_core.proofs.fixed.page_read_has_one_image.Goals as goal

pub returns : goal.returns
returns c = grind (arith, common_steps, shows_one)
