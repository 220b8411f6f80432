use Rattle.std.proofs.Common.{ℕ, ◌<◌}
use Rattle.snapshot.specs.Placing.{IsMisplaced}
use Rattle.snapshot.proofs.staging.Staging.first_not_following.Given as goal

-- each piece below the index is in place
abbrev pub invariant-loop-index : goal.invariant-loop-index
invariant-loop-index l = (below : ℕ) → below < l.index → IsMisplaced l.self below → ⊥
