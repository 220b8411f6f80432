-- Deciding facts about lists, and putting things in order.
use Rattle.std.proofs.Common.{◌≡◌, ℕ, ◌+◌, ◌<◌, ◌≤◌, ◌⊎◌, ◌↔◌, inl, inr, ⊎_elim, List, [], ◌∷◌, sym, ap, ◌∙◌, subst, arith, rules}
use Rattle.std.specs.List.{Contains}
use Rattle.redo_core.specs.Order.{IsRising, Lists}
use Rattle.redo_core.proofs.Members.{none_in, here, there, which, each, all_of}

-- P or its negation
abbrev pub Settled : Type 0 → Type 0
Settled P = P ⊎ (P → ⊥)

pub settled_le : (a b : ℕ) → Settled (a ≤ b)
settled_le a b = grind arith

pub settled_lt : (a b : ℕ) → Settled (a < b)
settled_lt a b = grind arith

pub settled_eq : (a b : ℕ) → Settled (a ≡ b)
settled_eq a b = grind arith

pub settled_and : (P Q : Type 0) → Settled P → (P → Settled Q) → Settled (P × Q)
settled_and P Q p q = ⊎_elim (λ (h : P). ⊎_elim (λ (k : Q). inl (h, k)) (λ (no : Q → ⊥). inr (λ pair. no pair.1)) (q h))
    (λ (no : P → ⊥). inr (λ pair. no pair.0)) p

pub settled_or : (P Q : Type 0) → Settled P → Settled Q → Settled (P ⊎ Q)
settled_or P Q p q = ⊎_elim (λ (h : P). inl (inl h)) (λ (no : P → ⊥). ⊎_elim (λ (k : Q). inl (inr k)) (λ (nok : Q → ⊥). inr (λ s. ⊎_elim no nok s)) q) p

pub settled_implies : (P Q : Type 0) → Settled P → Settled Q → Settled (P → Q)
settled_implies P Q p q = search rules

pub settled_by : (P Q : Type 0) → (P → Q) → (Q → P) → Settled P → Settled Q
settled_by P Q f g p = ⊎_elim (λ (h : P). inl (f h)) (λ (no : P → ⊥). inr (λ q. no (g q))) p

-- some member has P, or none has
pub some_or_none : {X : Type 0} (P : X → Type 0) → ((x : X) → Settled (P x)) → (xs : List X)
    → ((x : X) × Contains xs x × P x) ⊎ ((x : X) → Contains xs x → P x → ⊥)
some_or_none P test [] = inr (λ x h p. none_in x h)
some_or_none {X} P test (x ∷ xs) =
    ⊎_elim
    (λ (p : P x). inl (x, here x xs, p))
    (λ (no : P x → ⊥). ⊎_elim
    (λ (s : (x : X) × Contains xs x × P x). inl (s.0, there x xs s.0 s.1, s.2))
    (λ (none : (x : X) → Contains xs x → P x → ⊥). inr
    (λ y h p. ⊎_elim (λ (e : x ≡ y). no (subst P (sym e) p)) (λ (q : Contains xs y). none y q p) (which x xs y h)))
    (some_or_none P test xs))
    (test x)

-- each member has P, or not
pub settled_each : {X : Type 0} (P : X → Type 0) → ((x : X) → Settled (P x)) → (xs : List X) → Settled ((x : X) → Contains xs x → P x)
settled_each {X} P test xs =
    ⊎_elim
    (λ (s : (x : X) × Contains xs x × (P x → ⊥)). inr (λ f. s.2 (f s.0 s.1)))
    (λ (none : (x : X) → Contains xs x → (P x → ⊥) → ⊥). inl (λ x h. ⊎_elim (λ (p : P x). p) (λ (no : P x → ⊥). absurd (none x h no)) (test x)))
    (some_or_none (λ x. P x → ⊥) (λ x. ⊎_elim (λ (p : P x). inr (λ no. no p)) (λ (no : P x → ⊥). inl no) (test x)) xs)

-- the values of all members, added up, which no member's is above
pub total : {X : Type 0} → (X → ℕ) → List X → ℕ
total f [] = 0
total f (x ∷ xs) = f x + total f xs

pub within_total : {X : Type 0} (f : X → ℕ) (xs : List X) (x : X) → Contains xs x → f x ≤ total f xs
unfolding total
within_total f [] x h = absurd (none_in x h)
within_total f (y ∷ ys) x h =
    ⊎_elim (λ (e : y ≡ x). let q : f y ≡ f x = ap f e in omega arith) (λ (q : Contains ys x). let m : f x ≤ total f ys = within_total f ys x q in omega arith)
    (which y ys x h)

-- a list with one more element inserted in order
pub record Inserts {X : Type 0} (Before : X → X → Type 0) (x : X) (ys zs : List X) : Type 0 where
  pub rising : IsRising Before zs
  pub members : (z : X) → Contains zs z ↔ ((x ≡ z) ⊎ Contains ys z)

module _ {X : Type 0} (Before : X → X → Type 0) (Good : X → Type 0) (trans : (x y z : X) → Before x y → Before y z → Before x z)
    (order : (x y : X) → Good x → Good y → Before x y ⊎ ((x ≡ y) ⊎ Before y x)) where
  pub inserting : (x : X) → Good x → (ys : List X) → ((y : X) → Contains ys y → Good y) → IsRising Before ys → (zs : List X) × Inserts Before x ys zs
  inserting x good [] all r = (
    x ∷ [],
    record {
      rising = (tt, tt);
      members = λ z. (
        λ h. ⊎_elim (λ (e : x ≡ z). inl e) (λ (q : Contains [] z). inr q) (which x [] z h),
        λ s. ⊎_elim
            (λ (e : x ≡ z). subst (λ u. Contains (u ∷ []) z) (sym e) (here z [])) (λ (q : Contains [] z). absurd (none_in z q)) s,
      );
    },
  )
  inserting x good (y ∷ ys) all r =
      ⊎_elim
      (λ (b : Before x y). (
        x ∷ y ∷ ys,
        record {
          rising = ((b, all_of (Before x) ys (λ z h. trans x y z b (each (Before y) ys z r.0 h))), r);
          members = λ z. (
            which x (y ∷ ys) z,
            λ s. ⊎_elim (λ (e : x ≡ z). subst (λ u. Contains (u ∷ y ∷ ys) z) (sym e) (here z (y ∷ ys)))
                (λ (q : Contains (y ∷ ys) z). there x (y ∷ ys) z q) s,
          );
        },
      ))
      (λ (t : (x ≡ y) ⊎ Before y x). ⊎_elim
      (λ (e : x ≡ y). (
        y ∷ ys,
        record {
          rising = r;
          members = λ z. (
            λ h. inr h,
            λ s. ⊎_elim (λ (q : x ≡ z). subst (λ u. Contains (u ∷ ys) z) (sym (sym e ∙ q)) (here z ys))
                (λ (q : Contains (y ∷ ys) z). q) s,
          );
        },
      ))
      (λ (b : Before y x).
      let rest = inserting x good ys (λ z h. all z (there y ys z h)) r.1 in (
        y ∷ rest.0,
        record {
          rising = (
            all_of (Before y) rest.0 (λ z h. ⊎_elim (λ (e : x ≡ z). subst (Before y) e b) (λ (q : Contains ys z). each (Before y) ys z r.0 q)
                ((rest.1.members z).0 h)),
            rest.1.rising,
          );
          members = λ z. (
            λ h. ⊎_elim (λ (e : y ≡ z). inr (subst (λ u. Contains (u ∷ ys) z) (sym e) (here z ys)))
                (λ (q : Contains rest.0 z). ⊎_elim (λ (e : x ≡ z). inl e) (λ (u : Contains ys z). inr (there y ys z u)) ((rest.1.members z).0 q))
                (which y rest.0 z h),
            λ s. ⊎_elim (λ (e : x ≡ z). there y rest.0 z ((rest.1.members z).1 (inl e)))
                (λ (q : Contains (y ∷ ys) z). ⊎_elim (λ (e : y ≡ z). subst (λ u. Contains (u ∷ rest.0) z) (sym e) (here z rest.0))
                (λ (u : Contains ys z). there y rest.0 z ((rest.1.members z).1 (inr u))) (which y ys z q)) s,
          );
        },
      ))
      t)
      (order x y good (all y (here y ys)))

  -- what passes, in order
  pub in_order : (P : X → Type 0) → ((x : X) → Settled (P x)) → (xs : List X) → ((x : X) → Contains xs x → P x → Good x)
      → (zs : List X) × Lists Before (λ x. Contains xs x × P x) zs
  in_order P test [] all = ([], record { rising = tt; members = λ x. (λ h. absurd (none_in x h), λ s. s.0) })
  in_order P test (x ∷ xs) all =
      let rest = in_order P test xs (λ y h. all y (there x xs y h)) in
      ⊎_elim
      (λ (p : P x).
      let new = inserting x (all x (here x xs) p) rest.0 (λ y h. let s = (rest.1.members y).0 h in all y (there x xs y s.0) s.1) rest.1.rising in (
        new.0,
        record {
          rising = new.1.rising;
          members = λ z. (
            λ h. ⊎_elim (λ (e : x ≡ z). (subst (λ u. Contains (u ∷ xs) z) (sym e) (here z xs), subst P e p))
                (λ (q : Contains rest.0 z). let s = (rest.1.members z).0 q in (there x xs z s.0, s.1)) ((new.1.members z).0 h),
            λ s. (new.1.members z).1 (⊎_elim (λ (e : x ≡ z). inl e) (λ (q : Contains xs z). inr ((rest.1.members z).1 (q, s.1))) (which x xs z s.0)),
          );
        },
      ))
      (λ (no : P x → ⊥). (
        rest.0,
        record {
          rising = rest.1.rising;
          members = λ z. (
            λ h. let s = (rest.1.members z).0 h in (there x xs z s.0, s.1),
            λ s. ⊎_elim (λ (e : x ≡ z). absurd (no (subst P (sym e) s.1))) (λ (q : Contains xs z). (rest.1.members z).1 (q, s.1)) (which x xs z s.0),
          );
        },
      ))
      (test x)
