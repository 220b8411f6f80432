use Rattle.std.proofs.Common.{refl, arith}
use Rattle.segment_core.proofs.LastAnchor.{at_end}
use Rattle.segment_core.proofs.points.Points.on_end.Goals as goal

pub returns-then-min_point-number : goal.returns-then-min_point-number
returns-then-min_point-number c = λ held base j none.
    at_end c.args.book.now held base c.args.number c.args.self.anchor c.args.self j none (λ h. refl)
    (λ h. absurd (omega (arith, h, c.if-min_point-number.true, c.min_point.ensures.value)))

pub returns-else-min_point-number : goal.returns-else-min_point-number
returns-else-min_point-number c = λ held base j none.
    at_end c.args.book.now held base c.args.number c.args.number c.args.self j none
    (λ h. absurd (omega (arith, h, c.if-min_point-number.false, c.min_point.ensures.value))) (λ h. refl)
