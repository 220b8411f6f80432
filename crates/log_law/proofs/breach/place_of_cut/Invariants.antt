use Rattle.std.proofs.Common.{◌≡◌}
use Rattle.redo_core.specs.declared.facts.Fact.TheVariants.{Cut}
use Rattle.log_law.proofs.Candidates.{EachBefore}
use Rattle.log_law.proofs.breach.place_of_cut.Given as goal

abbrev pub invariant-loop-place : goal.invariant-loop-place
invariant-loop-place l = EachBefore l.facts (λ f. f ≡ Cut l.sought → ⊥) l.place
