-- Membership in lists, and lists in rising order.
use Rattle.std.proofs.Common.{rules}
use Rattle.std.proofs.Common.{◌≡◌, ℕ, zero, suc, ◌<◌, ◌⊎◌, ◌↔◌, inl, inr, ⊎_elim, List, [], ◌∷◌, length, get_or, refl, sym, ap, ◌∙◌, subst, arith, Bool, true, false, cond, Option, Some, None}
use Rattle.std.specs.List.{Contains, All, AllByRecursion, filter, filter_map, cons_option, insert}
use Rattle.std.proofs.lemmas.List.Elements.{All-from_recursion, All-contains}
use Rattle.redo_core.specs.Sets.{SameSet}
use Rattle.redo_core.specs.Order.{IsRising, Lists}

pub none_in : {X : Type 0} (x : X) → Contains [] x → ⊥
none_in x h = omega (arith, h.1)

pub here : {X : Type 0} (x : X) (xs : List X) → Contains (x ∷ xs) x
here x xs = (0, omega arith, refl)

pub there : {X : Type 0} (x : X) (xs : List X) (y : X) → Contains xs y → Contains (x ∷ xs) y
there x xs y h = (suc h.0, omega (arith, h.1), h.2)

pub cases_at : {X : Type 0} (x : X) (xs : List X) (y : X) (k : ℕ) → k < length (x ∷ xs) → get_or (x ∷ xs) k y ≡ y → (x ≡ y) ⊎ Contains xs y
cases_at x xs y k l e = search rules

pub which : {X : Type 0} (x : X) (xs : List X) (y : X) → Contains (x ∷ xs) y → (x ≡ y) ⊎ Contains xs y
which x xs y h = cases_at x xs y h.0 h.1 h.2

-- the member of a list of one
pub only : {X : Type 0} (x y : X) → Contains (x ∷ []) y → x ≡ y
only x y h = ⊎_elim (λ (e : x ≡ y). e) (λ (n : Contains [] y). absurd (none_in y n)) (which x [] y h)

-- the element that was read at an index
pub item : {X : Type 0} (xs : List X) (i : ℕ) (x : X) → i < length xs → x ≡ get_or xs i x → Contains xs x
item xs i x l e = (i, l, sym e)

-- a property of each element, and of each member
pub each : {X : Type 0} (P : X → Type 0) (xs : List X) (x : X) → AllByRecursion P xs → Contains xs x → P x
each P xs x all h = All-contains P xs x (All-from_recursion P xs all) h

pub all_of : {X : Type 0} (P : X → Type 0) (xs : List X) → ((x : X) → Contains xs x → P x) → AllByRecursion P xs
all_of P [] h = tt
all_of P (x ∷ xs) h = (h x (here x xs), all_of P xs (λ y q. h y (there x xs y q)))

pub all_members : {X : Type 0} (P : X → Type 0) (xs : List X) → ((x : X) → Contains xs x → P x) → All P xs
all_members P xs h = search rules

-- what an insertion adds
pub contains_insert : {X : Type 0} (xs : List X) (i : ℕ) (x y : X) → Contains (insert xs i x) y ↔ (Contains xs y ⊎ (y ≡ x))
contains_insert xs zero x y = (
  λ h. ⊎_elim (λ (e : x ≡ y). inr (sym e)) (λ (q : Contains xs y). inl q) (which x xs y h),
  λ h. ⊎_elim (λ (q : Contains xs y). there x xs y q) (λ (e : y ≡ x). subst (λ z. Contains (z ∷ xs) y) e (here y xs)) h,
)
contains_insert [] (suc i) x y = search rules
contains_insert (z ∷ zs) (suc i) x y =
    let ih = contains_insert zs i x y in search (rules, there)

-- what a filter keeps
filtered_at : {X : Type 0} (p : X → Bool) (x : X) (xs ys : List X) (y : X) (b : Bool) → p x ≡ b → (Contains ys y → Contains xs y × (p y ≡ true))
    → Contains (cond b (x ∷ ys) ys) y → Contains (x ∷ xs) y × (p y ≡ true)
filtered_at p x xs ys y b t ih h = search (rules, there)

passed_at : {X : Type 0} (p : X → Bool) (x : X) (xs ys : List X) (y : X) (b : Bool) → p x ≡ b → p y ≡ true → (Contains xs y → Contains ys y)
    → Contains (x ∷ xs) y → Contains (cond b (x ∷ ys) ys) y
passed_at p x xs ys y true t u ih h = search (rules, there)
passed_at p x xs ys y false t u ih h = ⊎_elim (λ (e : x ≡ y). absurd (cc)) ih (which x xs y h)

pub filtered : {X : Type 0} (p : X → Bool) (xs : List X) (y : X) → Contains (filter p xs) y → Contains xs y × (p y ≡ true)
filtered p [] y h = absurd (none_in y h)
filtered p (x ∷ xs) y h = filtered_at p x xs (filter p xs) y (p x) refl (filtered p xs y) h

pub passed : {X : Type 0} (p : X → Bool) (xs : List X) (y : X) → p y ≡ true → Contains xs y → Contains (filter p xs) y
passed p [] y u h = absurd (none_in y h)
passed p (x ∷ xs) y u h = passed_at p x xs (filter p xs) y (p x) refl u (passed p xs y u) h

-- what a filter_map keeps
pub past : {Y : Type 0} (o : Option Y) (ys : List Y) (v : Y) → Contains ys v → Contains (cons_option o ys) v
past None ys v q = q
past (Some u) ys v q = there u ys v q

pub mapped : {X Y : Type 0} (f : X → Option Y) (xs : List X) (x : X) (y : Y) → Contains xs x → f x ≡ Some y → Contains (filter_map f xs) y
mapped f [] x y h e = absurd (none_in x h)
mapped f (z ∷ zs) x y h e =
    ⊎_elim
    (λ (q : z ≡ x). subst (λ o. Contains (cons_option o (filter_map f zs)) y) (sym (ap f q ∙ e)) (here y (filter_map f zs)))
    (λ (q : Contains zs x). past (f z) (filter_map f zs) y (mapped f zs x y q e))
    (which z zs x h)

pub source_at : {X Y : Type 0} (f : X → Option Y) (z : X) (zs : List X) (y : Y) (o : Option Y) → f z ≡ o
    → (Contains (filter_map f zs) y → (x : X) × Contains zs x × (f x ≡ Some y)) → Contains (cons_option o (filter_map f zs)) y
    → (x : X) × Contains (z ∷ zs) x × (f x ≡ Some y)
source_at f z zs y o e ih h = search (rules, there)

pub source : {X Y : Type 0} (f : X → Option Y) (xs : List X) (y : Y) → Contains (filter_map f xs) y → (x : X) × Contains xs x × (f x ≡ Some y)
source f [] y h = absurd (none_in y h)
source f (z ∷ zs) y h = source_at f z zs y (f z) refl (source f zs y) h

-- rising lists with the same members are equal
pub rising_unique : {X : Type 0} (Before : X → X → Type 0) → ((x y : X) → Before x y → Before y x → ⊥) → (xs ys : List X) → IsRising Before xs
    → IsRising Before ys → SameSet xs ys → xs ≡ ys
rising_unique Before apart [] [] r s same = refl
rising_unique Before apart [] (y ∷ ys) r s same = absurd (none_in y ((same y).1 (here y ys)))
rising_unique Before apart (x ∷ xs) [] r s same = absurd (none_in x ((same x).0 (here x xs)))
rising_unique {X} Before apart (x ∷ xs) (y ∷ ys) r s same =
    ap (λ z. z ∷ xs) heads ∙ ap (λ zs. y ∷ zs) (rising_unique Before apart xs ys r.1 s.1 (λ z. (down z, up z)))
  where
    heads : x ≡ y
    heads =
        ⊎_elim sym
        (λ (p : Contains ys x). ⊎_elim (λ (e : x ≡ y). e)
        (λ (q : Contains xs y). absurd (apart x y (each (Before x) xs y r.0 q) (each (Before y) ys x s.0 p)))
        (which x xs y ((same y).1 (here y ys))))
        (which y ys x ((same x).0 (here x xs)))

    down : (z : X) → Contains xs z → Contains ys z
    down z h =
        ⊎_elim
        (λ (e : y ≡ z). absurd (let b : Before x z = each (Before x) xs z r.0 h in let c : Before x x = subst (Before x) (sym e ∙ sym heads) b in
        apart x x c c))
        (λ (q : Contains ys z). q)
        (which y ys z ((same z).0 (there x xs z h)))

    up : (z : X) → Contains ys z → Contains xs z
    up z h =
        ⊎_elim
        (λ (e : x ≡ z). absurd (let b : Before y z = each (Before y) ys z s.0 h in let c : Before y y = subst (Before y) (sym e ∙ heads) b in apart y y c c))
        (λ (q : Contains xs z). q)
        (which x xs z ((same z).1 (there y ys z h)))

-- two lists of the same things in the same order are equal
pub lists_unique : {X : Type 0} (Before : X → X → Type 0) → ((x y : X) → Before x y → Before y x → ⊥) → (P Q : X → Type 0) → ((x : X) → P x ↔ Q x)
    → (xs ys : List X) → Lists Before P xs → Lists Before Q ys → xs ≡ ys
lists_unique Before apart P Q same xs ys a b =
    rising_unique Before apart xs ys a.rising b.rising
    (λ x. (λ h. (b.members x).1 ((same x).0 ((a.members x).0 h)), λ h. (a.members x).1 ((same x).1 ((b.members x).0 h))))
