use Rattle.std.proofs.Common.{rules}
use Rattle.segment_core.proofs.Moving.{to_anchor}
use Rattle.segment_core.proofs.points.Points.over.Goals as goal

pub returns-then-raised-self : goal.returns-then-raised-self
returns-then-raised-self c = search (rules, to_anchor)
