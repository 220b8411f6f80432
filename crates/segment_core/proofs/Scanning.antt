-- Loops that test each element of a list and stop at the first that fails.
use Rattle.std.proofs.Common.{◌≡◌, ◌↔◌, ℕ, ◌<◌, ◌≤◌, ◌+◌, List, [], ◌∷◌, suc, length, get_or, take, Bool, true, false, refl, subst, IsTrue, arith, rules}
use Rattle.std.specs.List.{All, AllZip, Contains}
use Rattle.redo_core.proofs.Scans.{whole, one_more}

-- one element fails, so not all pass
pub one_fails : {X : Type 0} (P : X → Type 0) (xs : List X) (i : ℕ) (x : X) (passes : Bool) → i < length xs → x ≡ get_or xs i x → passes ≡ false
    → IsTrue passes ↔ P x
    → IsTrue false ↔ All P xs
one_fails P xs i x passes lt is fails tells = search rules

-- all up to the end pass
pub all_pass : {X : Type 0} (P : X → Type 0) (xs : List X) (i : ℕ) → length xs ≤ i → All P (take i xs) → IsTrue true ↔ All P xs
all_pass P xs i end seen = (λ h. whole P xs i end seen, λ h. refl)

-- one more passes
pub next_passes : {X : Type 0} (P : X → Type 0) (xs : List X) (i : ℕ) (x : X) (passes : Bool) → i < length xs → x ≡ get_or xs i x → passes ≡ true
    → IsTrue passes ↔ P x
    → All P (take i xs) → All P (take (i + 1) xs)
next_passes P xs i x passes lt is true_is tells seen = one_more P xs i x lt is seen (tells.0 true_is)

-- numbers of two lists of one length, compared index by index
pub zip_at_most : (low high : List ℕ) → length low ≡ length high → ((i : ℕ) → i < length low → get_or low i 0 ≤ get_or high i 0)
    → AllZip (λ p q. p ≤ q) low high
zip_at_most [] [] same each = tt
zip_at_most [] (q ∷ qs) same each = absurd (omega (arith, same))
zip_at_most (p ∷ ps) [] same each = absurd (omega (arith, same))
zip_at_most (p ∷ ps) (q ∷ qs) same each = (each 0 (omega arith), zip_at_most ps qs (omega (arith, same)) (λ i lt. each (suc i) (omega (arith, lt))))

pub of_member : {X : Type 0} (P : X → Type 0) (xs : List X) → All P xs → (x : X) → Contains xs x → P x
of_member P xs all x has = subst P has.2 (all has.0 x has.1)
