-- A state has one anchor.
use Rattle.std.proofs.Common.{◌≡◌, ℕ, ◌≤◌, ⊎_elim, arith}
use Rattle.redo_core.proofs.Numbers.{greatest_unique}
use Rattle.segment_theorems.specs.State.{State, min_of}
use Rattle.segment_theorems.specs.HasMeaning.{IsLinkedIn, HasAnchor}

pub one_anchor : (s : State) (a b : ℕ) → HasAnchor s a → HasAnchor s b → a ≡ b
one_anchor s a b h i = greatest_unique (λ n. IsLinkedIn s n × (n ≤ min_of s)) (λ n. IsLinkedIn s n × (n ≤ min_of s)) (λ n. (λ x. x, λ x. x)) a b h i

pub anchor_low : (s : State) (a : ℕ) → HasAnchor s a → a ≤ min_of s
anchor_low s a h = ⊎_elim (λ (z : a ≡ 0). omega arith) (λ (p : IsLinkedIn s a × (a ≤ min_of s)). p.1) h.0
