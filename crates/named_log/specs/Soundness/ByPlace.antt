-- A list that a function gives by index.
use Rattle.std.proofs.Common.{◌≡◌, ℕ, zero, suc, ◌+◌, ◌<◌, ◌≤◌, ◌⊎◌, ⊎_elim, map, refl, ap, subst, ◌∙◌, arith, le_refl, Some, None}
use Rattle.std.specs.Prelude.{slice_get}
use Rattle.std.specs.List.{Contains, range_with_len}
use Rattle.redo_core.proofs.Members.{none_in, here, there, which}

pub place_in_range : {X : Type 0} (f : ℕ → X) (a m : ℕ) (x : X) → Contains (map f (range_with_len a m)) x → (p : ℕ) × (a ≤ p) × (p < a + m) × (f p ≡ x)
place_in_range f a zero x h = absurd (none_in x h)
place_in_range f a (suc m) x h =
    ⊎_elim
    (λ (e : f a ≡ x). (a, le_refl a, omega arith, e))
    (λ (q : Contains (map f (range_with_len (a + 1) m)) x). let r = place_in_range f (a + 1) m x q in let l = r.1 in let u = r.2 in
    (r.0, omega (arith, l), omega (arith, u), r.3))
    (which (f a) (map f (range_with_len (a + 1) m)) x h)

pub has_place : {X : Type 0} (f : ℕ → X) (a m p : ℕ) → a ≤ p → p < a + m → Contains (map f (range_with_len a m)) (f p)
has_place f a zero p l u = absurd (omega (arith, l, u))
has_place f a (suc m) p l u =
    ⊎_elim
    (λ (e : a ≡ p). subst (λ (q : ℕ). Contains (map f (range_with_len a (suc m))) (f q)) e (here (f a) (map f (range_with_len (a + 1) m))))
    (λ (lt : a < p). there (f a) (map f (range_with_len (a + 1) m)) (f p) (has_place f (a + 1) m p (omega (arith, lt)) (omega (arith, u))))
    (let t : (a ≡ p) ⊎ (a < p) = grind arith in t)

pub get_place : {X : Type 0} (f : ℕ → X) (a m k : ℕ) → k < m → slice_get (map f (range_with_len a m)) k ≡ Some (f (a + k))
get_place f a zero k l = absurd (omega (arith, l))
get_place f a (suc m) zero l = ap (λ (z : ℕ). Some (f z)) (omega arith)
get_place f a (suc m) (suc k) l = get_place f (a + 1) m k (omega (arith, l)) ∙ ap (λ (z : ℕ). Some (f z)) (omega arith)

pub get_past : {X : Type 0} (f : ℕ → X) (a m k : ℕ) → m ≤ k → slice_get (map f (range_with_len a m)) k ≡ None
get_past f a zero k l = refl
get_past f a (suc m) zero l = absurd (omega (arith, l))
get_past f a (suc m) (suc k) l = get_past f (a + 1) m k (omega (arith, l))
