use Rattle.std.proofs.Common.{arith}
use Rattle.std.proofs.lemmas.Grind.{common_steps}
use Rattle.script_text.proofs.FactTexts.{record_encoded}
use Rattle.script_text.proofs.encoding.record_text.Goals as goal

pub returns-clause-encoded : goal.returns-clause-encoded
returns-clause-encoded c = grind (arith, common_steps, record_encoded)

pub returns-clause-text : goal.returns-clause-text
returns-clause-text c = grind (arith, common_steps)
