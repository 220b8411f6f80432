use Rattle.std.proofs.Common.{◌≡◌}
use Rattle.redo_core.specs.Sound.{SameKey}
use Rattle.log_law.proofs.Candidates.{EachBefore}
use Rattle.log_law.proofs.breach.key_breach.Given as goal

abbrev pub invariant-loop-earlier : goal.invariant-loop-earlier
invariant-loop-earlier l = EachBefore l.facts (λ f. SameKey f l.fact → f ≡ l.fact) l.earlier
