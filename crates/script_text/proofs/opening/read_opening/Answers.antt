use Rattle.std.proofs.Common.{arith, rules}
use Rattle.std.proofs.lemmas.Grind.{common_steps}
use Rattle.script_text.proofs.Lines.{opening_named, opening_unnamed, opening_last}
use Rattle.script_text.proofs.opening.read_opening.Goals as goal
use Rattle.script_text.proofs.opening.read_opening.Goals.{in-Some+in_default-roster, in_default}

pub returns-in-Some-roster-clause-opens : goal.returns-in-Some-roster-clause-opens
returns-in-Some-roster-clause-opens c = grind (arith, common_steps, opening_named)

pub returns-clause-opens : goal.returns-clause-opens
returns-clause-opens c = search (rules, opening_unnamed, opening_last)
