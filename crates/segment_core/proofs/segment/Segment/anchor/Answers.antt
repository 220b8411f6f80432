use Rattle.std.proofs.Common.{rules}
use Rattle.segment_theorems.specs.HasMeaning.{HasAnchor}
use Rattle.segment_core.proofs.Chain.{true_anchor}
use Rattle.segment_core.proofs.segment.Segment.anchor.Goals as goal

own : (c : goal.After-self) → HasAnchor c.args.self.now c.self.inside.points.anchor
own c = search rules

pub returns-clause-anchor : goal.returns-clause-anchor
returns-clause-anchor c = true_anchor c.args.self.now c.self.inside.points.anchor (own c)

pub returns-clause-own : goal.returns-clause-own
returns-clause-own c = own c
