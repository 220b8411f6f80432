use Rattle.std.proofs.Common.{arith}
use Rattle.std.proofs.lemmas.Grind.{common_steps}
use Rattle.script_text.proofs.encoding.advance_text.Goals as goal

pub returns-else-reader-eq1-clause-encoded : goal.returns-else-reader-eq1-clause-encoded
returns-else-reader-eq1-clause-encoded c = grind (arith, common_steps)

pub returns-else-reader-eq1-clause-text : goal.returns-else-reader-eq1-clause-text
returns-else-reader-eq1-clause-text c = grind (arith, common_steps)
