use Rattle.std.proofs.Common.{arith}
use Rattle.std.proofs.lemmas.Grind.{common_steps}
use Rattle.segment_core.proofs.Keys.{keys_none, keys_more, keys_all}
use Rattle.segment_core.proofs.segment.Segment.stored.Goals as goal

pub loop-next-init : goal.loop-next-init
loop-next-init c = grind (arith, common_steps, keys_none)

pub loop-next-preserved : goal.loop-next-preserved
loop-next-preserved c = grind (arith, common_steps, keys_more)

pub loop-next-smaller : goal.loop-next-smaller
loop-next-smaller c = grind (arith, common_steps)

pub returns-clause-keys : goal.returns-clause-keys
returns-clause-keys c = keys_all c.args.self.now.held c.loop-next.keys.items c.loop-next.next c.loop-next.invariant c.in_default.is
