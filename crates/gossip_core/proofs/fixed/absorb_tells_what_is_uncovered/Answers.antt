use Rattle.gossip_core.proofs.OneUncovered.{tells_uncovered}
use Rattle.gossip_core.proofs.fixed.absorb_tells_what_is_uncovered.Goals as goal

pub returns : goal.returns
returns c =
    tells_uncovered c.args.segment.now c.args.summary.now c.args.delta.now c.uncovered-shown.result c.absorb.result c.requires c.uncovered-shown.ensures.own
    c.absorb.ensures.answers c.absorb.ensures.refused
