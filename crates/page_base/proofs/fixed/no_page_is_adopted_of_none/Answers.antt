use Rattle.std.proofs.Common.{arith}
use Rattle.std.proofs.lemmas.Grind.{common_steps}
use Rattle.page_base.proofs.Stores.{none_adopted}
use Rattle.page_base.proofs.fixed.no_page_is_adopted_of_none.Goals as goal

pub returns : goal.returns
returns c = grind (arith, common_steps, none_adopted)
