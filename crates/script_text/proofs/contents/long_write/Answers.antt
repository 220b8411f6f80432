use Rattle.std.proofs.Common.{arith}
use Rattle.std.proofs.lemmas.Grind.{common_steps}
use Rattle.text.proofs.Numbers.{decimal_is_read}
use Rattle.script_text.proofs.contents.long_write.Goals as goal

pub returns : goal.returns
returns c = grind (arith, common_steps, decimal_is_read)
