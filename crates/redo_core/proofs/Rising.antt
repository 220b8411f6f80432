-- Lists in rising order, and what is before an index and after it.
use Rattle.std.proofs.lemmas.Grind.{common_steps}
use Rattle.std.proofs.Common.{rules}
use Rattle.std.proofs.Common.{◌≡◌, ℕ, zero, suc, ◌+◌, ◌<◌, ◌≤◌, ◌⊎◌, inl, inr, ⊎_elim, List, [], ◌∷◌, length, get_or, take, drop, sym, ◌∙◌, subst, arith, add-one, Bool, cond}
use Rattle.std.specs.List.{Contains, AllWithin, AllByRecursion, filter, insert}
use Rattle.std.specs.List.Sorted.{IsNonDecreasingBy}
use Rattle.std.proofs.lemmas.List.{take-append-drop}
use Rattle.std.proofs.lemmas.List.Elements.{All-from_recursion, recursion_from_All, All-filter, All-contains, Contains-append_left, Contains-append_right, Contains-append_cases}
use Rattle.redo_core.specs.Order.{IsRising}
use Rattle.redo_core.proofs.Members.{none_in, here, there, which, each, all_of}

pub rising_at : {X : Type 0} (Before : X → X → Type 0) (xs : List X) (i j : ℕ) (d e : X) → IsRising Before xs → i < j → j < length xs
    → Before (get_or xs i d) (get_or xs j e)
rising_at Before [] i j d e r l m = absurd (omega (arith, m))
rising_at Before (x ∷ xs) zero zero d e r l m = absurd (omega (arith, l))
rising_at Before (x ∷ xs) (suc i) zero d e r l m = absurd (omega (arith, l))
rising_at Before (x ∷ xs) zero (suc j) d e r l m = All-from_recursion (Before x) xs r.0 j e (omega (arith, m))
rising_at Before (x ∷ xs) (suc i) (suc j) d e r l m = rising_at Before xs i j d e r.1 (omega (arith, l)) (omega (arith, m))

-- a number that grows along the order
pub rising_by : {X : Type 0} (Before : X → X → Type 0) (n : X → ℕ) (xs : List X) → ((x y : X) → Before x y → n x ≤ n y) → IsRising Before xs
    → IsNonDecreasingBy n xs
rising_by Before n xs grows r i j d l m = search (rules, rising_at)

all_insert : {X : Type 0} (P : X → Type 0) (xs : List X) (i : ℕ) (x : X) → P x → AllByRecursion P xs → AllByRecursion P (insert xs i x)
all_insert P xs i x p all = grind (arith, common_steps)

-- an element between those before it and those after it
pub rising_insert_at : {X : Type 0} (Before : X → X → Type 0) (xs : List X) (i : ℕ) (x : X) → i ≤ length xs → IsRising Before xs
    → AllWithin (λ y. Before y x) xs 0 i → AllWithin (Before x) xs i (length xs) → IsRising Before (insert xs i x)
rising_insert_at Before xs zero x l r b a = (recursion_from_All (Before x) xs (λ k d m. a k d (omega arith) m), r)
rising_insert_at Before [] (suc i) x l r b a = absurd (omega (arith, l))
rising_insert_at Before (z ∷ zs) (suc i) x l r b a = (
  all_insert (Before z) zs i x (b 0 z (omega arith) (omega arith)) r.0,
  rising_insert_at Before zs i x (omega (arith, l)) r.1 (λ k d m n. b (suc k) d (omega arith) (omega (arith, n)))
      (λ k d m n. a (suc k) d (omega (arith, m)) (omega (arith, n))),
)

filter_at : {X : Type 0} (Before : X → X → Type 0) (x : X) (ys : List X) (b : Bool) → AllByRecursion (Before x) ys → IsRising Before ys
    → IsRising Before (cond b (x ∷ ys) ys)
filter_at Before x ys b all r = search rules

pub rising_filter : {X : Type 0} (Before : X → X → Type 0) (p : X → Bool) (xs : List X) → IsRising Before xs → IsRising Before (filter p xs)
rising_filter Before p [] r = tt
rising_filter Before p (x ∷ xs) r = filter_at Before x (filter p xs) (p x)
    (recursion_from_All (Before x) (filter p xs) (All-filter p (Before x) xs (All-from_recursion (Before x) xs r.0))) (rising_filter Before p xs r.1)

-- two members of a rising list
pub rising_members : {X : Type 0} (Before : X → X → Type 0) (xs : List X) (x y : X) → IsRising Before xs → Contains xs x → Contains xs y
    → (x ≡ y) ⊎ (Before x y ⊎ Before y x)
rising_members Before [] x y r hx hy = absurd (none_in x hx)
rising_members Before (z ∷ zs) x y r hx hy =
    ⊎_elim
    (λ (e : z ≡ x). grind (arith, common_steps))
    (λ (p : Contains zs x). ⊎_elim
    (λ (f : z ≡ y). inr (inr (subst (λ w. Before w x) f (All-contains (Before z) zs x (All-from_recursion (Before z) zs r.0) p))))
    (λ (q : Contains zs y). rising_members Before zs x y r.1 p q)
    (which z zs y hy))
    (which z zs x hx)

pub in_take : {X : Type 0} (i : ℕ) (xs : List X) (x : X) → Contains (take i xs) x → Contains xs x
in_take i xs x h = subst (λ l. Contains l x) (take-append-drop i xs) (Contains-append_left (take i xs) (drop i xs) x h)

pub in_drop : {X : Type 0} (i : ℕ) (xs : List X) (x : X) → Contains (drop i xs) x → Contains xs x
in_drop i xs x h = subst (λ l. Contains l x) (take-append-drop i xs) (Contains-append_right (take i xs) (drop i xs) x h)

-- a member is before an index, or from there on
pub side : {X : Type 0} (i : ℕ) (xs : List X) (x : X) → Contains xs x → Contains (take i xs) x ⊎ Contains (drop i xs) x
side i xs x h = Contains-append_cases (take i xs) (drop i xs) x (subst (λ l. Contains l x) (sym (take-append-drop i xs)) h)

-- the element at an index is the first from there on
pub item_drop : {X : Type 0} (xs : List X) (i : ℕ) (x : X) → i < length xs → x ≡ get_or xs i x → Contains (drop i xs) x
item_drop xs i x l e = grind (arith, common_steps)

-- the rest from an element on is that element and what comes after it
rest_at : {X : Type 0} (xs : List X) (i : ℕ) (x y : X) → i < length xs → x ≡ get_or xs i x → Contains (drop i xs) y → (x ≡ y) ⊎ Contains (drop (suc i) xs) y
rest_at [] i x y l e h = absurd (omega (arith, l))
rest_at (z ∷ zs) zero x y l e h = ⊎_elim (λ (q : z ≡ y). inl (e ∙ q)) (λ (q : Contains zs y). inr q) (which z zs y h)
rest_at (z ∷ zs) (suc i) x y l e h = rest_at zs i x y (omega (arith, l)) e h

pub rest_from : {X : Type 0} (xs : List X) (i : ℕ) (x y : X) → i < length xs → x ≡ get_or xs i x → Contains (drop i xs) y
    → (x ≡ y) ⊎ Contains (drop (i + 1) xs) y
rest_from xs i x y l e h = rw add-one (rest_at xs i x y l e h)

-- what is before the next index
front_at : {X : Type 0} (xs : List X) (i : ℕ) (x y : X) → i < length xs → x ≡ get_or xs i x → Contains (take (suc i) xs) y → (x ≡ y) ⊎ Contains (take i xs) y
front_at [] i x y l e h = absurd (omega (arith, l))
front_at (z ∷ zs) zero x y l e h = ⊎_elim (λ (q : z ≡ y). inl (e ∙ q)) (λ (q : Contains [] y). absurd (none_in y q)) (which z [] y h)
front_at (z ∷ zs) (suc i) x y l e h =
    ⊎_elim
    (λ (q : z ≡ y). inr (subst (Contains (z ∷ take i zs)) q (here z (take i zs))))
    (λ (q : Contains (take (suc i) zs) y). ⊎_elim (λ (u : x ≡ y). inl u) (λ (u : Contains (take i zs) y). inr (there z (take i zs) y u))
    (front_at zs i x y (omega (arith, l)) e q))
    (which z (take (suc i) zs) y h)

pub front_to : {X : Type 0} (xs : List X) (i : ℕ) (x y : X) → i < length xs → x ≡ get_or xs i x → Contains (take (i + 1) xs) y
    → (x ≡ y) ⊎ Contains (take i xs) y
front_to xs i x y l e h = front_at xs i x y l e (subst (λ j. Contains (take j xs) y) (add-one i) h)

-- the element at an index is before the next index
up_at : {X : Type 0} (xs : List X) (i : ℕ) (x : X) → i < length xs → x ≡ get_or xs i x → Contains (take (suc i) xs) x
up_at xs i x l e = grind (arith, common_steps)

pub up_to : {X : Type 0} (xs : List X) (i : ℕ) (x : X) → i < length xs → x ≡ get_or xs i x → Contains (take (i + 1) xs) x
up_to xs i x l e = rw add-one (up_at xs i x l e)

-- what is before an index is before the next
take_suc : {X : Type 0} (xs : List X) (i : ℕ) (x : X) → Contains (take i xs) x → Contains (take (suc i) xs) x
take_suc xs i x h = grind (arith, common_steps)

pub take_grows : {X : Type 0} (xs : List X) (i : ℕ) (x : X) → Contains (take i xs) x → Contains (take (i + 1) xs) x
take_grows xs i x h = rw add-one (take_suc xs i x h)

-- nothing is after the last index
pub past_end : {X : Type 0} (xs : List X) (i : ℕ) (x : X) → length xs ≤ i → Contains (drop i xs) x → ⊥
past_end xs i x l h = grind (arith, common_steps)

pub whole : {X : Type 0} (xs : List X) (i : ℕ) (x : X) → length xs ≤ i → Contains xs x → Contains (take i xs) x
whole xs i x l h = ⊎_elim (λ (q : Contains (take i xs) x). q) (λ (q : Contains (drop i xs) x). absurd (past_end xs i x l q)) (side i xs x h)

-- in a rising list what is before an index is smaller than what is after it
pub across : {X : Type 0} (Before : X → X → Type 0) (xs : List X) (i : ℕ) (x y : X) → IsRising Before xs → Contains (take i xs) x → Contains (drop i xs) y
    → Before x y
across Before [] zero x y r h k = absurd (none_in x h)
across Before [] (suc i) x y r h k = absurd (none_in x h)
across Before (z ∷ zs) zero x y r h k = absurd (none_in x h)
across Before (z ∷ zs) (suc i) x y r h k =
    ⊎_elim
    (λ (q : z ≡ x). subst (λ w. Before w y) q (each (Before z) zs y r.0 (in_drop i zs y k)))
    (λ (q : Contains (take i zs) x). across Before zs i x y r.1 q k)
    (which z (take i zs) x h)

-- a rising list with one more element inserted in order
pub rising_insert : {X : Type 0} (Before : X → X → Type 0) (xs : List X) (i : ℕ) (x : X) → IsRising Before xs → ((y : X) → Contains (take i xs) y → Before y x)
    → ((y : X) → Contains (drop i xs) y → Before x y) → IsRising Before (insert xs i x)
rising_insert Before [] zero x r low high = (tt, tt)
rising_insert Before [] (suc i) x r low high = (tt, tt)
rising_insert Before (z ∷ zs) zero x r low high = (all_of (Before x) (z ∷ zs) high, r)
rising_insert Before (z ∷ zs) (suc i) x r low high = (
  grind (arith, common_steps),
  rising_insert Before zs i x r.1 (λ y h. low y (there z (take i zs) y h)) high,
)
