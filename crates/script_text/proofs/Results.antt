-- What was read, and what was read as part of more.
use Rattle.std.proofs.Common.{◌≡◌, ℕ, ◌<◌, ◌⊎◌, inl, inr, Bool, true, false, cond, eqb, leb, List, [], ◌∷◌, ◌++◌, length, Option, Some, None, Result, Ok, Err, refl, arith, length-append, rules}
use Rattle.std.proofs.lemmas.Bool.Decides.{nat_tests}
use Rattle.script_text.specs.Script.{or_bad, within}

-- what stands behind the last LF
abbrev pub end : List (List ℕ)
end = [] ∷ []

abbrev pub good : {A : Type 0} → A → Result A ℕ
good x = Ok x

abbrev pub bad : {A : Type 0} → ℕ → Result A ℕ
bad at = Err at

pub bad_is : {A : Type 0} (at stop : ℕ) → bad {A = A} at ≡ Err stop → at ≡ stop
bad_is at stop h = cc

pub not_good : {A : Type 0} (at : ℕ) (y : A) → bad at ≡ Ok y → ⊥
not_good at y h = cc

-- an answer that no good one is
pub refused : {A : Type 0} (r : Result A ℕ) (at : ℕ) (x : A) → r ≡ Err at → r ≡ Ok x → ⊥
refused r at x e h = cc

-- a test that must fail
pub past : {A : Type 0} (b : Bool) (at : ℕ) (r : Result A ℕ) (y : A) → cond b (Err at) r ≡ Ok y → (b ≡ false) × (r ≡ Ok y)
past b at r y h = search rules

pub one_of : {A : Type 0} (b : Bool) (r q y : Result A ℕ) → cond b r q ≡ y → ((b ≡ true) × (r ≡ y)) ⊎ ((b ≡ false) × (q ≡ y))
one_of b r q y h = search rules

pub found : {A : Type 0} (o : Option A) → (o ≡ None) ⊎ ((x : A) × (o ≡ Some x))
found None = inl refl
found (Some x) = inr (x, refl)

pub or_bad_ok : {A B : Type 0} (at : ℕ) (o : Option A) (f : A → Result B ℕ) (y : B) → or_bad at o f ≡ Ok y → (x : A) × (o ≡ Some x) × (f x ≡ Ok y)
or_bad_ok at o f y h = search rules

pub within_ok : {A B : Type 0} (onto : A → B) (r : Result A ℕ) (y : B) → within onto r ≡ Ok y → (x : A) × (r ≡ Ok x) × (y ≡ onto x)
within_ok onto r y h = search rules

pub within_bad : {A B : Type 0} (onto : A → B) (r : Result A ℕ) (stop : ℕ) → within onto r ≡ Err stop → r ≡ Err stop
within_bad onto r stop h = search rules

-- ---- tests

pub some_left : (n : ℕ) → 0 < n → eqb n 0 ≡ false
some_left n some = grind (arith, nat_tests)

pub room : (n m : ℕ) → m < n → leb n m ≡ false
room n m lt = grind (arith, nat_tests)

pub room_is : (n m : ℕ) → leb n m ≡ false → m < n
room_is n m e = grind (arith, nat_tests)

pub ended : (xs : List (List ℕ)) → 0 < length (xs ++ end)
ended xs = omega (arith, length-append xs end)
