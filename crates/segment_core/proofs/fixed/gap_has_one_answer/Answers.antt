use Rattle.segment_core.proofs.Ahead.{gap_one}
use Rattle.segment_core.proofs.fixed.gap_has_one_answer.Goals as goal

pub returns : goal.returns
returns c = gap_one c.args.segment.now c.gap.result c.gap-2.result c.gap.ensures.form c.gap.ensures.own c.gap-2.ensures.own
