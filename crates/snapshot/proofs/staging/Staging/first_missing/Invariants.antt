use Rattle.std.proofs.Common.{ℕ, ◌<◌}
use Rattle.snapshot.specs.Stagings.{IsMissingPiece}
use Rattle.snapshot.proofs.staging.Staging.first_missing.Given as goal

-- no piece below the index is missing
abbrev pub invariant-loop-index : goal.invariant-loop-index
invariant-loop-index l = (below : ℕ) → below < l.index → IsMissingPiece l.self below → ⊥
