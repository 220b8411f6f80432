use Rattle.std.proofs.Common.{refl, arith, rules}
use Rattle.redo_core.specs.Linked.Linked.{start}
use Rattle.segment_core.proofs.points.Points.anchor_on.Goals as goal

pub returns-then-min-from : goal.returns-then-min-from
returns-then-min-from c = (λ h. refl, λ h. absurd (omega (arith, h, c.if-min-from.true, c.min_point-min.ensures.value)))

pub returns-then-end-min : goal.returns-then-end-min
returns-then-end-min c = search rules

pub returns : goal.returns
returns c = (
  λ h. absurd (omega (arith, h, c.if-min-from.false, c.min_point-min.ensures.value)),
  λ h. c.anchor_of_last.ensures c.args.from (record {
    complete = record { linked = c.requires.linked; most = c.requires.most };
    anchor = start;
    bound = h;
    straight = λ t. c.requires.straight;
    since = λ r h lt. omega arith;
  }) refl,
)
