-- The order of keys in groups, and the first and last among the members of a rising list that pass a test.
use Rattle.std.proofs.Common.{◌≡◌, ℕ, ◌<◌, ◌⊎◌, inl, inr, ⊎_elim, List, [], ◌∷◌, ◌++◌, sym, subst, arith, Bool, true, rules, ◌↔◌}
use Rattle.std.proofs.lemmas.Grind.{common_steps}
use Rattle.std.specs.List.{Contains, filter}
use Rattle.std.specs.List.Sorted.{IsStrictlySortedBy}
use Rattle.std.specs.Ordering.{nat_cmp}
use Rattle.std.specs.Cmp.{IsTotalOrder, nat_cmp_total, then_total, on_total}
use Rattle.std.specs.declared.cmp.Ordering.{Ordering}
use Rattle.std.specs.declared.cmp.Ordering.TheVariants.{Less, Equal}
use Rattle.std.proofs.lemmas.Map.Lookups.{CmpEqualImpliesEq, exact_pairs, exact_unsigned}
use Rattle.std.proofs.lemmas.List.Elements.{Contains-append_cases, Contains-append_left}
use Rattle.redo_core.specs.Order.{IsRising}
use Rattle.redo_core.specs.Keys.{key_cmp, KeyBefore}
use Rattle.redo_core.specs.declared.keys.Key.{Key}
use Rattle.hot_log.specs.Paged.{place_cmp}
use Rattle.hot_log.proofs.Maps.{IsExact}
use Rattle.redo_core.proofs.Members.{none_in, here, which, each, filtered, passed, only}
use Rattle.redo_core.proofs.Rising.{rising_filter}

pub key_total : IsTotalOrder key_cmp
key_total = then_total (on_total (λ (t : Key). t.epoch) nat_cmp_total) (on_total (λ (t : Key). t.number) nat_cmp_total)

pub place_total : IsTotalOrder place_cmp
place_total = then_total (on_total (λ (t : ℕ × Key). t.0) nat_cmp_total) (on_total (λ (t : ℕ × Key). t.1) key_total)

pub key_exact : CmpEqualImpliesEq key_cmp
key_exact k l h = search rules

pub place_exact : CmpEqualImpliesEq place_cmp
place_exact = exact_pairs nat_cmp key_cmp exact_unsigned key_exact

key_same : (p : Key) → key_cmp p p ≡ Equal
key_same p = grind arith

place_same : (p : ℕ × Key) → place_cmp p p ≡ Equal
place_same p = grind arith

pub keys_exact : IsExact key_cmp
keys_exact = record { total = key_total; exact = key_exact; same = key_same }

pub places_exact : IsExact place_cmp
places_exact = record { total = place_total; exact = place_exact; same = place_same }

pub key_less : (x y : Key) → key_cmp x y ≡ Less → KeyBefore x y
key_less x y h = grind arith

pub key_less_of : (x y : Key) → KeyBefore x y → key_cmp x y ≡ Less
key_less_of x y h = grind arith

pub place_less : (x y : ℕ × Key) → place_cmp x y ≡ Less → (x.0 < y.0) ⊎ ((x.0 ≡ y.0) × KeyBefore x.1 y.1)
place_less x y h = search rules

pub place_less_of : (x y : ℕ × Key) → (x.0 < y.0) ⊎ ((x.0 ≡ y.0) × KeyBefore x.1 y.1) → place_cmp x y ≡ Less
place_less_of x y h = search rules

-- the order of keys is that of the list
pub rises : {K : Type 0} (c : K → K → Ordering) (xs : List K) → IsStrictlySortedBy c xs → IsRising (λ x y. c x y ≡ Less) xs
unfolding IsStrictlySortedBy
rises c xs s = search rules

pub first_kept : {X : Type 0} (Before : X → X → Type 0) (p : X → Bool) (xs : List X) (x : X) (t : List X) → IsRising Before xs → filter p xs ≡ x ∷ t → Contains xs x × (p x ≡ true) × ((y : X) → Contains xs y → p y ≡ true → (x ≡ y) ⊎ Before x y)
first_kept {X} Before p xs x t rising is =
    let front : Contains (filter p xs) x = subst (λ (l : List X). Contains l x) (sym is) (here x t) in
    let in_order : IsRising Before (x ∷ t) = subst (IsRising Before) is (rising_filter Before p xs rising) in
    let q = filtered p xs x front in (
      q.0,
      q.1,
      λ y h k. ⊎_elim
          (λ (e : x ≡ y). inl e)
          (λ (u : Contains t y). inr (each (Before x) t y in_order.0 u))
          (which x t y (subst (λ (l : List X). Contains l y) is (passed p xs y k h))),
    )

pub none_kept : {X : Type 0} (p : X → Bool) (xs : List X) → filter p xs ≡ [] → (y : X) → Contains xs y → p y ≡ true → ⊥
none_kept {X} p xs is y h k = none_in y (subst (λ (l : List X). Contains l y) is (passed p xs y k h))

at_end : {X : Type 0} (t : List X) (x : X) → Contains (t ++ x ∷ []) x
at_end t x = grind (arith, common_steps)

-- what joins a list at its end
pub joins_last : {X : Type 0} (xs : List X) (x y : X) → Contains (xs ++ x ∷ []) y ↔ (Contains xs y ⊎ (y ≡ x))
joins_last {X} xs x y = (
  λ h. ⊎_elim
      (λ (u : Contains xs y). inl u)
      (λ (u : Contains (x ∷ []) y). inr (sym (only x y u)))
      (Contains-append_cases xs (x ∷ []) y h),
  λ h. ⊎_elim
      (λ (u : Contains xs y). Contains-append_left xs (x ∷ []) y u)
      (λ (e : y ≡ x). subst (λ (z : X). Contains (xs ++ x ∷ []) z) (sym e) (at_end xs x))
      h,
)

before_last : {X : Type 0} (Before : X → X → Type 0) (t : List X) (x y : X) → IsRising Before (t ++ x ∷ []) → Contains t y → Before y x
before_last Before [] x y r h = absurd (none_in y h)
before_last {X} Before (z ∷ t) x y r h =
    ⊎_elim
    (λ (e : z ≡ y). subst (λ (w : X). Before w x) e (each (Before z) (t ++ x ∷ []) x r.0 (at_end t x)))
    (λ (u : Contains t y). before_last Before t x y r.1 u)
    (which z t y h)

pub last_of : {X : Type 0} (Before : X → X → Type 0) (xs : List X) (x : X) (t : List X) → IsRising Before xs → xs ≡ t ++ x ∷ [] → Contains xs x × ((y : X) → Contains xs y → (x ≡ y) ⊎ Before y x)
last_of {X} Before xs x t rising is =
    let in_order : IsRising Before (t ++ x ∷ []) = subst (IsRising Before) is rising in (
      subst (λ (l : List X). Contains l x) (sym is) (at_end t x),
      λ y h. ⊎_elim
          (λ (u : Contains t y). inr (before_last Before t x y in_order u))
          (λ (u : Contains (x ∷ []) y). ⊎_elim (λ (e : x ≡ y). inl e) (λ (v : Contains [] y). absurd (none_in y v)) (which x [] y u))
          (Contains-append_cases t (x ∷ []) y (subst (λ (l : List X). Contains l y) is h)),
    )

pub last_kept : {X : Type 0} (Before : X → X → Type 0) (p : X → Bool) (xs : List X) (x : X) (t : List X) → IsRising Before xs → filter p xs ≡ t ++ x ∷ [] → Contains xs x × (p x ≡ true) × ((y : X) → Contains xs y → p y ≡ true → (x ≡ y) ⊎ Before y x)
last_kept Before p xs x t rising is =
    let last = last_of Before (filter p xs) x t (rising_filter Before p xs rising) is in
    let q = filtered p xs x last.0 in
    (q.0, q.1, λ y h k. last.1 y (passed p xs y k h))
