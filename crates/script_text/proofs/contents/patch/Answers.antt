use Rattle.std.proofs.Common.{rules}
use Rattle.script_text.proofs.RecordContents.{fill_is}
use Rattle.script_text.proofs.contents.patch.Goals as goal

pub returns-in-Some-first_part-2 : goal.returns-in-Some-first_part-2
returns-in-Some-first_part-2 c = search (rules, fill_is)
