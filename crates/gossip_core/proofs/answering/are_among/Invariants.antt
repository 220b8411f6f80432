use Rattle.std.proofs.Common.{take}
use Rattle.std.specs.List.{All, Contains}
use Rattle.gossip_core.proofs.answering.are_among.Given as goal

-- those so far are kept
abbrev pub invariant-loop-key : goal.invariant-loop-key
invariant-loop-key l = All (Contains l.kept) (take l.place l.keys)
