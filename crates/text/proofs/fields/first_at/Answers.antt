use Rattle.text.proofs.FirstPart.{first_is}
use Rattle.text.proofs.fields.first_at.Goals as goal

pub returns : goal.returns
returns c = first_is c.args.separator c.args.text.now c.memchr.result c.memchr.ensures
