use Rattle.std.proofs.Common.{take}
use Rattle.std.specs.List.{All}
use Rattle.gossip_core.specs.Answering.{IsCovered}
use Rattle.gossip_core.proofs.answering.first_uncovered.Given as goal

-- those so far are accounted for
abbrev pub invariant-loop-key : goal.invariant-loop-key
invariant-loop-key l = All (IsCovered l.segment l.anchor) (take l.key-index l.keys)
