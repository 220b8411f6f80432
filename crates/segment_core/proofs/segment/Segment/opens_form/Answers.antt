use Rattle.std.proofs.Common.{subst}
use Rattle.segment_core.specs.Form.{IsSegment}
use Rattle.segment_core.proofs.Chain.{form_of}
use Rattle.segment_core.proofs.segment.Segment.opens_form.Goals as goal

pub returns : goal.returns
returns c = record { form = subst IsSegment c.self.view_is (form_of c.self.inside.book c.self.inside.hot c.self.inside.base c.self.inside.store c.self.inside.points c.self.inside.due c.self.invariant) }
