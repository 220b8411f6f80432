use Rattle.std.proofs.Common.{rules}
use Rattle.redo_core.proofs.Plain.{plain_injective}
use Rattle.redo_core.proofs.patches.Body.is_same.Goals as goal

pub returns-in-Writes-Writes : goal.returns-in-Writes-Writes
returns-in-Writes-Writes c = search (rules, plain_injective)
