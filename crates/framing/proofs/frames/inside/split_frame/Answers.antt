use Rattle.std.proofs.Common.{rules}
use Rattle.framing.proofs.Nested.{too_few}
use Rattle.framing.proofs.frames.inside.split_frame.Goals as goal

pub returns-then-behind-length-clause-none : goal.returns-then-behind-length-clause-none
returns-then-behind-length-clause-none c = search (rules, too_few)

pub returns-clause-bytes : goal.returns-clause-bytes
returns-clause-bytes c = search rules
