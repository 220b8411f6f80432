-- What was found, where something was found.
use Rattle.std.proofs.Common.{◌≡◌, ℕ, ◌⊎◌, Bool, true, false, cond, List, Option, Some, None, rules}
use Rattle.std.specs.Prelude.{bytes_eq}
use Rattle.std.proofs.lemmas.Grind.{common_steps}
use Rattle.std.proofs.lemmas.Slice.Eq.{bytes_eq-Decides}
use Rattle.std.proofs.Common.{arith}
use Rattle.text.specs.Parts.{◌>>=◌}

abbrev pub here : {A : Type 0} → A → Option A
here x = Some x

pub some_is : {A : Type 0} (x y : A) → here x ≡ Some y → x ≡ y
some_is x y h = cc

pub bind_some : {A B : Type 0} (o : Option A) (f : A → Option B) (y : B) → (o >>= f) ≡ Some y → (x : A) × (o ≡ Some x) × (f x ≡ Some y)
bind_some o f y h = search rules

pub either : {A : Type 0} (b : Bool) (r q : Option A) (y : A) → cond b r q ≡ Some y → ((b ≡ true) × (r ≡ Some y)) ⊎ ((b ≡ false) × (q ≡ Some y))
either b r q y h = search rules

pub true_is : (x y : List ℕ) → bytes_eq x y ≡ true → x ≡ y
true_is x y h = grind (arith, common_steps, bytes_eq-Decides x y, h)

pub no_test : (b : Bool) → (b ≡ true → ⊥) → b ≡ false
no_test b h = search rules

-- a test that must fail
pub tested : {A : Type 0} (b : Bool) (o : Option A) (y : A) → cond b None o ≡ Some y → (b ≡ false) × (o ≡ Some y)
tested b o y h = search rules
