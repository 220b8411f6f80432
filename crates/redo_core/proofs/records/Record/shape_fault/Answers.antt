use Rattle.std.proofs.Common.{sym, false}
use Rattle.redo_core.specs.Data.{plain}
use Rattle.redo_core.proofs.records.Record.shape_fault.Goals as goal

pub returns : goal.returns
returns c = λ epoch page. c.first_fault.ensures epoch page false (plain c.args.writes.now) (sym c.writes_fault.ensures)
