use Rattle.std.proofs.Common.{arith}
use Rattle.std.proofs.lemmas.Grind.{common_steps}
use Rattle.segment_core.proofs.exported_pages.image_at_anchor.Goals as goal

pub returns-then-is_zero : goal.returns-then-is_zero
returns-then-is_zero c = grind (arith, common_steps)

pub returns : goal.returns
returns c = grind (arith, common_steps)
