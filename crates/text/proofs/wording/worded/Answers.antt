use Rattle.std.proofs.Common.{arith}
use Rattle.std.proofs.lemmas.Grind.{common_steps}
use Rattle.text.proofs.WordedTexts.{worded_behind}
use Rattle.text.proofs.wording.worded.Goals as goal

pub returns : goal.returns
returns c =
    let whole = worded_behind c.args.word.now c.args.numbers.now in
    grind (arith, common_steps)
