-- Members of lists that rise, and of parts of them.
use Rattle.std.proofs.Common.{◌≡◌, ℕ, zero, suc, ◌<◌, ◌⊎◌, inl, inr, ⊎_elim, List, [], ◌∷◌, length, get_or, set, drop, sym, ◌∙◌, subst, arith, rules}
use Rattle.std.specs.List.{Contains}
use Rattle.redo_core.specs.Order.{IsRising}
use Rattle.redo_core.proofs.Members.{which, each}

-- what is at or after an index in a rising list is the element there, or comes after it
pub from_place : {X : Type 0} (Before : X → X → Type 0) (xs : List X) (i : ℕ) (x y : X) → IsRising Before xs → i < length xs → x ≡ get_or xs i x
    → Contains (drop i xs) y → (x ≡ y) ⊎ Before x y
from_place Before [] i x y r l e h = absurd (omega (arith, l))
from_place Before (z ∷ zs) zero x y r l e h = ⊎_elim (λ (q : z ≡ y). inl (e ∙ q))
    (λ (q : Contains zs y). inr (subst (λ w. Before w y) (sym e) (each (Before z) zs y r.0 q))) (which z zs y h)
from_place Before (z ∷ zs) (suc i) x y r l e h = from_place Before zs i x y r.1 (omega (arith, l)) e h

-- the list after one element is overwritten
pub in_set : {X : Type 0} (xs : List X) (i : ℕ) (x y : X) → Contains (set xs i x) y → (y ≡ x) ⊎ Contains xs y
in_set xs i x y h = search rules
