use Rattle.std.proofs.lemmas.Grind.{common_steps}
use Rattle.std.proofs.Common.{subst, arith}
use Rattle.segment_core.specs.Form.{IsSegment}
use Rattle.segment_core.specs.Reading.{IsFrontOf}
use Rattle.segment_core.proofs.Chain.{true_front, form_of}
use Rattle.segment_core.proofs.segment.Segment.front.Goals as goal

own : (c : goal.After-min_point)
    → IsFrontOf c.args.self.now (record { epoch = c.complete_epoch.result; complete = c.self.inside.points.complete; min = c.min_point.result })
own c = grind (arith, common_steps)

pub returns-clause-front : goal.returns-clause-front
returns-clause-front c = true_front c.args.self.now _ (own c)

pub returns-clause-own : goal.returns-clause-own
returns-clause-own c = own c

pub returns-clause-form : goal.returns-clause-form
returns-clause-form c = subst IsSegment c.self.view_is (form_of c.self.inside.book c.self.inside.hot c.self.inside.base c.self.inside.store c.self.inside.points c.self.inside.due c.self.invariant)
