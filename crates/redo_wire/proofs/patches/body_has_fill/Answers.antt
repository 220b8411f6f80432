use Rattle.std.proofs.Common.{sym}
use Rattle.redo_wire.proofs.Bodies.{plain_unfilled}
use Rattle.redo_wire.proofs.patches.body_has_fill.Goals as goal

pub returns-in-Writes : goal.returns-in-Writes
returns-in-Writes c = let none = plain_unfilled c.in-Writes.field-0.now in let is = c.in-Writes.is in sym (rw is none)
