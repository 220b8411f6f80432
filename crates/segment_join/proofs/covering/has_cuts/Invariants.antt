use Rattle.std.proofs.Common.{take}
use Rattle.std.specs.List.{All, Contains}
use Rattle.segment_join.proofs.covering.has_cuts.Given as goal

-- those so far are stored
abbrev pub invariant-loop-cut : goal.invariant-loop-cut
invariant-loop-cut l = All (λ c. Contains l.upper.book.cuts c) (take l.cut-index l.cuts)
