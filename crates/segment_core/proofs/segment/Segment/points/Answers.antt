use Rattle.std.proofs.Common.{◌≡◌, ◌∙◌, subst}
use Rattle.segment_theorems.specs.State.{State}
use Rattle.segment_theorems.proofs.Booked.{points_as}
use Rattle.segment_core.specs.Form.{IsSegment}
use Rattle.segment_core.proofs.Chain.{form_of}
use Rattle.segment_core.proofs.segment.Segment.points.Goals as goal

pub returns-clause-points : goal.returns-clause-points
returns-clause-points c = λ roster log facts p sound means. subst (λ (s : State). c.points.result.now ≡ s.book.points) c.self.view_is c.points.ensures.value
    ∙ points_as means

pub returns-clause-form : goal.returns-clause-form
returns-clause-form c = subst IsSegment c.self.view_is (form_of c.self.inside.book c.self.inside.hot c.self.inside.base c.self.inside.store c.self.inside.points c.self.inside.due c.self.invariant)
