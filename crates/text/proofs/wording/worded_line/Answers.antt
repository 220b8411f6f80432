use Rattle.std.proofs.Common.{arith}
use Rattle.std.proofs.lemmas.Grind.{common_steps}
use Rattle.text.proofs.WordedTexts.{worded_ended}
use Rattle.text.proofs.wording.worded_line.Goals as goal

pub returns : goal.returns
returns c = grind (arith, common_steps, worded_ended c.args.word.now c.args.numbers.now)
