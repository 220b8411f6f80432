-- The greatest number with a property.
use Rattle.std.proofs.Common.{rules}
use Rattle.std.proofs.Common.{◌≡◌, ℕ, zero, suc, ◌≤◌, ◌⊎◌, ◌↔◌, inl, inr, ⊎_elim, refl, sym, subst, arith}
use Rattle.redo_core.specs.Order.{IsGreatest}

pub greatest_le : (P Q : ℕ → Type 0) → ((n : ℕ) → P n → Q n) → (n m : ℕ) → IsGreatest P n → IsGreatest Q m → n ≤ m
greatest_le P Q f n m a b = ⊎_elim (λ (e : n ≡ 0). omega arith) (λ (p : P n). b.1 n (f n p)) a.0

pub greatest_unique : (P Q : ℕ → Type 0) → ((n : ℕ) → P n ↔ Q n) → (n m : ℕ) → IsGreatest P n → IsGreatest Q m → n ≡ m
greatest_unique P Q f n m a b = search rules

-- a property that 0 has, or that does not concern 0, is true of the greatest
pub at_greatest : (P : ℕ → Type 0) → P 0 → (n : ℕ) → IsGreatest P n → P n
at_greatest P z n a = ⊎_elim (λ (e : n ≡ 0). subst P (sym e) z) (λ (p : P n). p) a.0

-- below a bound there is a greatest number with a property that can be decided
pub greatest_below : (P : ℕ → Type 0) → ((n : ℕ) → P n ⊎ (P n → ⊥)) → (b : ℕ) → ((m : ℕ) → P m → m ≤ b) → (n : ℕ) × IsGreatest P n
greatest_below P test zero top = (0, (inl refl, top))
greatest_below P test (suc b) top =
    ⊎_elim
    (λ (p : P (suc b)). (suc b, (inr p, top)))
    (λ (no : P (suc b) → ⊥). greatest_below P test b
    (λ m h. ⊎_elim (λ (e : m ≡ suc b). absurd (no (subst P e h))) (λ (l : m ≤ b). l) (grind arith)))
    (test (suc b))
