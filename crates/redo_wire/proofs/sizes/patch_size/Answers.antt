use Rattle.std.proofs.Common.{sym}
use Rattle.redo_wire.proofs.Lengths.{fill_len}
use Rattle.redo_wire.proofs.sizes.patch_size.Goals as goal

pub returns-in-Fill-clause-size : goal.returns-in-Fill-clause-size
returns-in-Fill-clause-size c = rw c.in-Fill.is (sym (fill_len c.args.is_full c.in-Fill.offset c.in-Fill.len c.in-Fill.byte))
