use Rattle.std.proofs.Common.{sym, ◌∙◌}
use Rattle.redo_core.proofs.Plain.{plain_off_page}
use Rattle.redo_wire.proofs.Bodies.{plain_encoded}
use Rattle.redo_wire.proofs.patches.put_patches.Goals as goal

pub put_writes-requires : goal.put_writes-requires
put_writes-requires c = let asked = rw c.in-Writes.is at c.requires in sym (plain_off_page c.in-Writes.writes.now) ∙ asked

pub returns-in-Writes : goal.returns-in-Writes
returns-in-Writes c = rw (c.in-Writes.is, plain_encoded c.args.is_full c.in-Writes.writes.now) c.put_writes.ensures
