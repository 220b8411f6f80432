use Rattle.std.proofs.lemmas.Grind.{common_steps}
use Rattle.std.proofs.Common.{subst, arith}
use Rattle.std.specs.List.{All}
use Rattle.gossip_core.specs.Answering.{IsCovered}
use Rattle.gossip_core.proofs.answering.uncovered_above.Goals as goal

pub returns-in-Some : goal.returns-in-Some
returns-in-Some c = grind (arith, common_steps)

pub returns-in-None : goal.returns-in-None
returns-in-None c = (
  omega (arith, c.anchor.ensures.anchor, c.if-anchor.false),
  subst (All (IsCovered c.args.segment.now c.args.anchor)) c.keys.ensures.keys c.in-None.ensures,
)
