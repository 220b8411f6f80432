use Rattle.std.proofs.Common.{arith, rules}
use Rattle.std.proofs.lemmas.Grind.{common_steps}
use Rattle.text.proofs.Cursor.{part_behind, none_behind, no_front}
use Rattle.script_text.proofs.contents.offset_before.Goals as goal
use Rattle.script_text.proofs.contents.offset_before.Goals.{in_default-via-then-rest-lt1, in_default-via-else-rest-lt1+in_default-1}

pub returns-in_err-offset : goal.returns-in_err-offset
returns-in_err-offset c = grind (arith, common_steps, no_front)

pub returns-in-58 : goal.returns-in-58
returns-in-58 c = grind (arith, common_steps, part_behind)

pub returns-in_default : goal.returns-in_default
returns-in_default c = search (rules, none_behind)
