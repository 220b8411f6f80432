use Rattle.std.proofs.Common.{take}
use Rattle.std.specs.List.{All}
use Rattle.segment_join.specs.Covering.{HasAt}
use Rattle.segment_join.proofs.covering.has_keys.Given as goal

-- those so far are there
abbrev pub invariant-loop-key : goal.invariant-loop-key
invariant-loop-key l = All (HasAt l.upper l.anchor l.lower) (take l.key-index l.keys)
