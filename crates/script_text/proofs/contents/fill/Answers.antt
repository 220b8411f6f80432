use Rattle.std.proofs.Common.{sym}
use Rattle.script_text.proofs.RecordContents.{no_fill}
use Rattle.script_text.proofs.contents.fill.Goals as goal

pub returns-then-digits-ne2 : goal.returns-then-digits-ne2
returns-then-digits-ne2 c = sym (no_fill c.args.offset.now c.args.len.now c.args.digits.now c.if-digits-ne2.true)
