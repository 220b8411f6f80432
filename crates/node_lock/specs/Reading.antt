-- A call that reads the state, and may change what is no part of its trail.
use Rattle.std.specs.Prelude.{◌≡◌, List}
use Rattle.node_lock.specs.Trail.{Entry}

-- Wherever the type's property holds before the call, it holds after, the trail is the same, and what was there is retained.
-- `calls s x t` says that the call may find s, answer x and leave t.
abbrev pub KeepsTrail : {S X : Type 0} → (S → List Entry) → (S → Type 0) → (S → S → Type 0) → (S → X → S → Type 0) → Type 0
KeepsTrail {S} {X} trail_of keeps retains calls = (s t : S) (x : X) → keeps s → calls s x t → keeps t × (trail_of t ≡ trail_of s) × retains s t
