-- What `select_nth_unstable` picks is the one that so many reach.
use Rattle.std.proofs.Common.{◌≡◌, ℕ, zero, suc, ◌+◌, ◌-◌, ◌<◌, ◌≤◌, Bool, true, false, List, [], ◌∷◌, ◌++◌, length, get_or, refl, ap, subst, arith, nat_lt, cond, length-append}
use Rattle.std.proofs.lemmas.Grind.{common_steps}
use Rattle.std.specs.Prelude.{nat_le}
use Rattle.std.specs.List.Sorted.{IsPermutation, IsSplitAround}
use Rattle.std.specs.Ordering.{is_lt, nat_cmp}
use Rattle.std.specs.Cmp.{ranks}
use Rattle.std.proofs.lemmas.Bool.Decides.{nat_tests}
use Rattle.std.proofs.lemmas.List.Sorted.{sum_by-IsPermutation, length_permutation, Contains-permutation, IsPermutation-sym}
use Rattle.std.proofs.lemmas.List.Sums.{sum_by-append, sum_by-cons}
use Rattle.std.proofs.lemmas.List.Elements.{Contains-append_right}
use Rattle.front_board.specs.NthGreatest.{count_above, count_reached, IsNthGreatest}

not_below : (x y : ℕ) → is_lt (nat_cmp x y) ≡ false → y ≤ x
not_below x y h = grind (arith, nat_tests, ranks x y)

none_above : (x : ℕ) (xs : List ℕ) → ((k : ℕ) → k < length xs → get_or xs k 0 ≤ x) → count_above x xs ≡ 0
none_above x [] h = refl
none_above x (y ∷ ys) h = let le : y ≤ x = h 0 (omega arith) in let rest = none_above x ys (λ k l. h (suc k) (omega (arith, l))) in grind (arith, nat_tests)

all_from : (x : ℕ) (xs : List ℕ) → ((k : ℕ) → k < length xs → x ≤ get_or xs k 0) → count_reached x xs ≡ length xs
all_from x [] h = refl
all_from x (y ∷ ys) h =
    let le : x ≤ y = h 0 (omega arith) in
    let t : nat_le x y ≡ true = grind (arith, nat_tests) in
    let u : count_reached x (y ∷ ys) ≡ cond (nat_le x y) 1 0 + count_reached x ys = sum_by-cons (λ z. cond (nat_le x z) 1 0) y ys in
    let v : ◌≡◌ {A = ℕ} (cond (nat_le x y) 1 0) 1 = ap (λ (b : Bool). cond b 1 0) t in
    let rest = all_from x ys (λ k l. h (suc k) (omega (arith, l))) in
    omega (arith, u, v, rest)

above_few : (x : ℕ) (xs : List ℕ) → count_above x xs ≤ length xs
above_few x xs = grind (arith, common_steps)

-- over the list that the choice left
picked : (x need : ℕ) (front back : List ℕ) → suc (length back) ≡ need
    → ((k : ℕ) → k < length front → get_or front k 0 ≤ x) → ((k : ℕ) → k < length back → x ≤ get_or back k 0)
    → (count_above x (front ++ x ∷ back) < need) × (need ≤ count_reached x (front ++ x ∷ back))
picked x need front back len low high =
    let a = sum_by-append (λ y. cond (nat_lt x y) 1 0) front (x ∷ back) in
    let b = none_above x front low in
    let c = above_few x back in
    let d = sum_by-append (λ y. cond (nat_le x y) 1 0) front (x ∷ back) in
    let e = all_from x (x ∷ back) (elim [ zero ↦ λ l. omega arith | suc k ↦ λ l. high k (omega (arith, l)) ]) in
    let f : count_above x (x ∷ back) ≡ count_above x back = grind (arith, nat_tests) in
    (omega (arith, a, b, c, f, len), omega (arith, d, e, len))

pub nth : (xs front back : List ℕ) (x need : ℕ) → 0 < need → need ≤ length xs → IsPermutation xs (front ++ x ∷ back) → length front ≡ length xs - need
    → IsSplitAround nat_cmp front x back → IsNthGreatest need xs x
nth xs front back x need some most moved at split =
    let ys : List ℕ = front ++ x ∷ back in
    let l = length_permutation xs ys moved in
    let m = length-append front (x ∷ back) in
    let p = picked x need front back (omega (arith, l, m, at, some, most)) (λ k h. not_below x _ (split.0 k 0 h)) (λ k h. not_below _ x (split.1 k 0 h)) in
    record {
      among = Contains-permutation ys xs x (IsPermutation-sym xs ys moved) (Contains-append_right front (x ∷ back) x (0, omega arith, refl));
      above = subst (λ n. n < need) (sum_by-IsPermutation (λ y. cond (nat_lt x y) 1 0) xs ys moved) p.0;
      reached = subst (λ n. need ≤ n) (sum_by-IsPermutation (λ y. cond (nat_le x y) 1 0) xs ys moved) p.1;
    }
