use Rattle.std.proofs.Common.{take}
use Rattle.std.specs.List.{All}
use Rattle.reference_model.specs.Comparing.{KeepsFact, CoversFact}
use Rattle.reference_model.specs.Stands.{position_of}
use Rattle.reference_model.proofs.comparing.covers_all.Given as goal

-- so far each that is kept is covered
abbrev pub invariant-loop-fact : goal.invariant-loop-fact
invariant-loop-fact l = All (λ f. KeepsFact l.others (position_of l.below) f → CoversFact l.facts (position_of l.above) f) (take l.fact-index l.others)
