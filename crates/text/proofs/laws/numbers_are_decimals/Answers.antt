use Rattle.text.proofs.Numbers.{numbers_are_decimals}
use Rattle.text.proofs.laws.numbers_are_decimals.Goals as goal

pub returns : goal.returns
returns c = numbers_are_decimals
