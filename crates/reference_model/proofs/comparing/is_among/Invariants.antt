use Rattle.std.proofs.Common.{◌≢◌, take}
use Rattle.std.specs.List.{All}
use Rattle.reference_model.proofs.comparing.is_among.Given as goal

-- none so far is the fact
abbrev pub invariant-loop-other : goal.invariant-loop-other
invariant-loop-other l = All (λ f. f ≢ l.fact) (take l.other-index l.facts)
