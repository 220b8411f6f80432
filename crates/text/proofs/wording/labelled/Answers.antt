use Rattle.std.proofs.Common.{arith}
use Rattle.std.proofs.lemmas.Grind.{common_steps}
use Rattle.text.proofs.WordedTexts.{labels_in_row}
use Rattle.text.proofs.wording.labelled.Goals as goal

pub returns : goal.returns
returns c =
    let whole = labels_in_row c.args.numbers.now in
    grind (arith, common_steps)
