use Rattle.std.proofs.Common.{sym, ◌∙◌}
use Rattle.snapshot.proofs.Frozen.{one_snapshot}
use Rattle.snapshot.proofs.fixed.a_segment_has_one_snapshot.Goals as goal

pub returns : goal.returns
returns c =
    one_snapshot c.args.segment.now c.in_ok-one.one c.in_ok-other.other c.in_ok-one.ensures.frozen c.in_ok-other.ensures.frozen
    (c.in_ok-one.ensures.name ∙ sym c.in_ok-other.ensures.name)
