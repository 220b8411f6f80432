-- Counts over lists, and what they say of the n-th greatest.
use Rattle.std.proofs.Common.{◌≡◌, ℕ, zero, suc, ◌+◌, ◌<◌, ◌≤◌, ◌⊎◌, ⊎_elim, Bool, true, List, [], ◌∷◌, length, slice_index, arith, cond, nat_lt, le_refl, rules}
use Rattle.std.specs.Prelude.{nat_le}
use Rattle.std.specs.List.{count_by}
use Rattle.std.proofs.lemmas.Bool.Decides.{nat_tests}
use Rattle.std.proofs.lemmas.List.Sums.{sum_by-cons}
use Rattle.front_board.specs.NthGreatest.{count_reached, IsNthGreatest}
use Rattle.front_board.specs.Rule.{IsWithin}

one_at_most : (a b : Bool) → (a ≡ true → b ≡ true) → cond a 1 0 ≤ cond b 1 0
one_at_most a b h = search rules

-- where each element that passes one test has a partner that passes another, no fewer pass the other
count_at_most : (p q : ℕ → Bool) (v w : List ℕ) → length v ≡ length w → ((k : ℕ) → k < length v → p (slice_index v k) ≡ true → q (slice_index w k) ≡ true)
    → count_by p v ≤ count_by q w
count_at_most p q [] [] l h = le_refl 0
count_at_most p q [] (b ∷ ws) l h = absurd (omega (arith, l))
count_at_most p q (a ∷ vs) [] l h = absurd (omega (arith, l))
count_at_most p q (a ∷ vs) (b ∷ ws) l h =
    let u : count_by p (a ∷ vs) ≡ cond (p a) 1 0 + count_by p vs = sum_by-cons (λ z. cond (p z) 1 0) a vs in
    let w : count_by q (b ∷ ws) ≡ cond (q b) 1 0 + count_by q ws = sum_by-cons (λ z. cond (q z) 1 0) b ws in
    let here = one_at_most (p a) (q b) (h zero (omega arith)) in
    let rest = count_at_most p q vs ws (omega (arith, l)) (λ k m. h (suc k) (omega (arith, m))) in
    omega (arith, u, w, here, rest)

passes : (x y a : ℕ) → x < y → nat_le y a ≡ true → nat_lt x a ≡ true
passes x y a lt t = grind (arith, nat_tests)

-- words that are nowhere below a view have reached what the view's entries have
pub reached_within : (need : ℕ) (seen words : List ℕ) (answer : ℕ) → IsNthGreatest need seen answer → IsWithin seen words → need ≤ count_reached answer words
reached_within need seen words answer nth within = search (rules, count_at_most)

not_above : (n : ℕ) (xs : List ℕ) (x y : ℕ) → IsNthGreatest n xs x → IsNthGreatest n xs y → x < y → ⊥
not_above n xs x y nth other lt = search (rules, count_at_most)

-- the n-th greatest is one number
pub nth_greatest_unique : (n : ℕ) (xs : List ℕ) (x y : ℕ) → IsNthGreatest n xs x → IsNthGreatest n xs y → x ≡ y
nth_greatest_unique n xs x y nth other =
    ⊎_elim
    (λ (lt : x < y). absurd (not_above n xs x y nth other lt))
    (λ (ge : y ≤ x). ⊎_elim (λ (lt : y < x). absurd (not_above n xs y x other nth lt)) (λ (e : x ≡ y). e) (let t : (y < x) ⊎ (x ≡ y) = grind arith in t))
    (let t : (x < y) ⊎ (y ≤ x) = grind arith in t)
