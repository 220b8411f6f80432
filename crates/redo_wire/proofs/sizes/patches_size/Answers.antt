use Rattle.std.proofs.Common.{sym, ◌∙◌}
use Rattle.redo_core.proofs.Plain.{plain_off_page}
use Rattle.redo_wire.proofs.Bodies.{plain_encoded}
use Rattle.redo_wire.proofs.sizes.patches_size.Goals as goal

pub writes_size-requires-clause-inside : goal.writes_size-requires-clause-inside
writes_size-requires-clause-inside c = let asked = rw c.in-Writes.is at c.requires.inside in sym (plain_off_page c.in-Writes.writes.now) ∙ asked

pub returns-in-Writes-clause-size : goal.returns-in-Writes-clause-size
returns-in-Writes-clause-size c = rw (c.in-Writes.is, plain_encoded c.args.is_full c.in-Writes.writes.now) c.writes_size.ensures.size
