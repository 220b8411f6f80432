-- Lists that gain one or some at their end: rising lists, and those in rising order of the things with a property.
use Rattle.std.proofs.lemmas.Grind.{common_steps}
use Rattle.std.proofs.Common.{rules, arith}
use Rattle.std.proofs.Common.{◌≡◌, ℕ, ◌+◌, ◌<◌, ◌≤◌, ◌⊎◌, ◌↔◌, ⊎_elim, List, [], ◌∷◌, ◌++◌, length, get_or, take, sym, subst}
use Rattle.std.specs.List.{Contains, AllByRecursion}
use Rattle.std.proofs.lemmas.List.Elements.{Contains-append_left, Contains-append_right, Contains-append_cases}
use Rattle.redo_core.specs.Order.{IsRising, Lists}
use Rattle.redo_core.proofs.Members.{none_in, here, there, which, each, all_of}
use Rattle.redo_core.proofs.Rising.{front_to, up_to, take_grows, in_take, whole}

-- one more at the end of a rising list
pub rising_push : {X : Type 0} (Before : X → X → Type 0) (xs : List X) (x : X) → IsRising Before xs → ((y : X) → Contains xs y → Before y x) → IsRising Before (xs ++ x ∷ [])
rising_push Before [] x r low = (tt, tt)
rising_push Before (y ∷ ys) x r low = (
  all_of (Before y) (ys ++ x ∷ []) (λ z h. ⊎_elim (λ (u : Contains ys z). each (Before y) ys z r.0 u) (λ (u : Contains (x ∷ []) z). ⊎_elim (λ (v : x ≡ z). subst (Before y) v (low y (here y ys))) (λ (v : Contains [] z). absurd (none_in z v)) (which x [] z u)) (Contains-append_cases ys (x ∷ []) z h)),
  rising_push Before ys x r.1 (λ z h. low z (there y ys z h)),
)

-- a rising list appended to a lower one
pub rising_append : {X : Type 0} (Before : X → X → Type 0) (xs ys : List X) → IsRising Before xs → IsRising Before ys
    → ((x y : X) → Contains xs x → Contains ys y → Before x y) → IsRising Before (xs ++ ys)
rising_append Before [] ys r s cross = s
rising_append Before (x ∷ xs) ys r s cross = (
  all_of (Before x) (xs ++ ys) (λ z h. grind (arith, common_steps, here)),
  rising_append Before xs ys r.1 s (λ y z u v. cross y z (there x xs y u) v),
)

-- a property of all of a list, and of one more at its end
pub all_push : {X : Type 0} (P : X → Type 0) (xs : List X) (x : X) → AllByRecursion P xs → P x → AllByRecursion P (xs ++ x ∷ [])
all_push P xs x all one = grind (arith, common_steps)

-- a list with one more at its end, and a property of its members
pub lists_push : {X : Type 0} (Before : X → X → Type 0) (P Q : X → Type 0) (xs : List X) (x : X) → Lists Before P xs → ((y : X) → P y → Before y x) → ((y : X) → Q y ↔ (P y ⊎ (y ≡ x))) → Lists Before Q (xs ++ x ∷ [])
lists_push {X} Before P Q xs x lists low same = record {
  rising = rising_push Before xs x lists.rising (λ y h. low y ((lists.members y).0 h));
  members = λ y. grind (arith, common_steps, Contains-append_right);
}

-- the elements with P before the next index: the one at the index is appended to the list
pub lists_more : {X : Type 0} (Before : X → X → Type 0) (P : X → Type 0) (xs ys : List X) (i : ℕ) (x : X) → i < length xs → x ≡ get_or xs i x → P x → ((y : X) → Contains (take i xs) y → P y → Before y x) → Lists Before (λ y. Contains (take i xs) y × P y) ys → Lists Before (λ y. Contains (take (i + 1) xs) y × P y) (ys ++ x ∷ [])
lists_more Before P xs ys i x l e p low lists = record {
  rising = rising_push Before ys x lists.rising (λ y h. let t = (lists.members y).0 h in low y t.0 t.1);
  members = λ y. (
    λ h. ⊎_elim
        (λ (u : Contains ys y). let t = (lists.members y).0 u in (take_grows xs i y t.0, t.1))
        (λ (u : Contains (x ∷ []) y). ⊎_elim (λ (v : x ≡ y). (subst (Contains (take (i + 1) xs)) v (up_to xs i x l e), subst P v p)) (λ (v : Contains [] y). absurd (none_in y v)) (which x [] y u))
        (Contains-append_cases ys (x ∷ []) y h),
    λ h. ⊎_elim
        (λ (u : x ≡ y). Contains-append_right ys (x ∷ []) y (subst (Contains (x ∷ [])) u (here x [])))
        (λ (u : Contains (take i xs) y). Contains-append_left ys (x ∷ []) y ((lists.members y).1 (u, h.1)))
        (front_to xs i x y l e h.0),
  );
}

-- and where it lacks P the list stays
pub lists_left : {X : Type 0} (Before : X → X → Type 0) (P : X → Type 0) (xs ys : List X) (i : ℕ) (x : X) → i < length xs → x ≡ get_or xs i x → (P x → ⊥) → Lists Before (λ y. Contains (take i xs) y × P y) ys → Lists Before (λ y. Contains (take (i + 1) xs) y × P y) ys
lists_left Before P xs ys i x l e lacks lists = record {
  rising = lists.rising;
  members = λ y. (
    λ h. let t = (lists.members y).0 h in (take_grows xs i y t.0, t.1),
    λ h. ⊎_elim
        (λ (u : x ≡ y). absurd (lacks (subst P (sym u) h.1)))
        (λ (u : Contains (take i xs) y). (lists.members y).1 (u, h.1))
        (front_to xs i x y l e h.0),
  );
}

pub lists_whole : {X : Type 0} (Before : X → X → Type 0) (P : X → Type 0) (xs ys : List X) (i : ℕ) → length xs ≤ i → Lists Before (λ y. Contains (take i xs) y × P y) ys → Lists Before (λ y. Contains xs y × P y) ys
lists_whole Before P xs ys i l lists = record {
  rising = lists.rising;
  members = λ y. (λ h. let t = (lists.members y).0 h in (in_take i xs y t.0, t.1), λ h. (lists.members y).1 (whole xs i y l h.0, h.1));
}

-- the same things under another name
pub lists_as : {X : Type 0} (Before : X → X → Type 0) (P Q : X → Type 0) (xs : List X) → ((x : X) → P x ↔ Q x) → Lists Before P xs → Lists Before Q xs
lists_as Before P Q xs same lists = search rules
