use Rattle.std.proofs.Common.{◌∙◌, sym}
use Rattle.redo_core.proofs.fixed.shape_has_one_fault.Goals as goal

pub returns : goal.returns
returns c = c.shape_fault.ensures 0 0 ∙ sym (c.shape_fault-2.ensures 0 0)
