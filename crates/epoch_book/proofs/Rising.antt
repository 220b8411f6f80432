-- The first thing with a property, in a rising list and alone.
use Rattle.std.proofs.Common.{◌≡◌, ℕ, zero, suc, ◌<◌, inl, inr, ⊎_elim, List, [], ◌∷◌, length, get_or, take, sym, ◌∙◌, subst, arith, rules}
use Rattle.std.specs.List.{Contains, All}
use Rattle.redo_core.specs.Order.{IsRising}
use Rattle.redo_core.proofs.Members.{here, there, which, each}
use Rattle.epoch_book.specs.Refusing.{IsFirst}

-- the first index with P has the first member with P
pub first_place : {X : Type 0} (Before : X → X → Type 0) (P : X → Type 0) (xs : List X) (i : ℕ) (x : X) → IsRising Before xs → i < length xs → x ≡ get_or xs i x
    → P x → All (λ y. P y → ⊥) (take i xs) → IsFirst Before (λ y. Contains xs y × P y) x
first_place Before P [] i x r l e p none = absurd (omega (arith, l))
first_place Before P (z ∷ zs) zero x r l e p none = record {
  has = (subst (λ w. Contains (w ∷ zs) x) e (here x zs), p);
  least = λ y h. ⊎_elim (λ (f : z ≡ y). inl (sym f ∙ sym e)) (λ (q : Contains zs y). inr (subst (λ w. Before w y) (sym e) (each (Before z) zs y r.0 q)))
      (which z zs y h.0);
}
first_place {X} Before P (z ∷ zs) (suc i) x r l e p none =
    let ih : IsFirst Before (λ y. Contains zs y × P y) x = first_place Before P zs i x r.1 (omega (arith, l)) e p
    (λ k d m. none (suc k) d (omega (arith, m))) in
    let off : P z → ⊥ = none 0 z (omega arith) in
    record {
      has = (there z zs x ih.has.0, p);
      least = λ y h. ⊎_elim (λ (f : z ≡ y). absurd (off (subst P (sym f) h.1))) (λ (q : Contains zs y). ih.least y (q, h.1)) (which z zs y h.0);
    }

-- there is one first thing
pub one_first : {X : Type 0} (Before : X → X → Type 0) (P : X → Type 0) (x y : X) → ((u v : X) → Before u v → Before v u → ⊥) → IsFirst Before P x
    → IsFirst Before P y → x ≡ y
one_first Before P x y apart fx fy = search rules
