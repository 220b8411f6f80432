use Rattle.std.proofs.Common.{rules}
use Rattle.redo_core.proofs.Plain.{plain_off_page}
use Rattle.redo_core.proofs.pages.put_body.Goals as goal

pub put_all-requires-clause-inside : goal.put_all-requires-clause-inside
put_all-requires-clause-inside c = search (rules, plain_off_page)
