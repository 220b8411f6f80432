use Rattle.fleet_drill.proofs.Parts.{never_above, never_broken}
use Rattle.fleet_drill.proofs.telling.put_page.Goals as goal

pub unreachable-requires : goal.unreachable-requires
unreachable-requires g c =
    never_above g.L.LogName.roster g.L.LogName.log c.segment-segment.result.now c.front.result c.args.page c.in-Above.complete c.in-Err.fault
    g.met.L.LogName.sound c.segment-segment.ensures.part c.front.ensures.front c.in-Err.ensures.result c.in-Above.is

pub unreachable-requires-in-BrokenBlockChain : goal.unreachable-requires-in-BrokenBlockChain
unreachable-requires-in-BrokenBlockChain g c =
    never_broken g.L.LogName.roster g.L.LogName.log c.segment-segment.result.now c.args.page c.front.result.complete c.in-BrokenBlockChain.page c.in-BrokenBlockChain.number c.in-Err.fault
    g.met.L.LogName.sound c.segment-segment.ensures.part c.in-Err.ensures.result c.in-BrokenBlockChain.is
