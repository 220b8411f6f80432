-- Which replies an engine counts.
use Rattle.std.specs.Prelude.{◌≡◌, ℕ, Some, None, slice_set}
use Rattle.volume.specs.declared.phases.Session.{Session}
use Rattle.volume.specs.Sets.{birth_at}

-- the reply is under the engine's generation, and of the birth that was fenced or admitted under it
abbrev pub IsOwn : Session → ℕ → ℕ → ℕ → Type 0
IsOwn s node generation birth = (generation ≡ s.generation) × (birth_at s.births node ≡ Some birth)

-- the node is fenced or admitted under the engine's generation, and no birth of it is known yet
abbrev pub IsLate : Session → ℕ → ℕ → Type 0
IsLate s node generation = (generation ≡ s.generation) × (birth_at s.births node ≡ None)

-- the session with a birth
abbrev pub with_birth : Session → ℕ → ℕ → Session
with_birth s node birth = record {
  generation = s.generation;
  births = slice_set s.births node (Some birth);
  quorum = s.quorum;
}
