-- What is read of the first parts of a text is what is read of all of them.
use Rattle.std.proofs.Common.{◌≡◌, ℕ, ◌+◌, ◌<◌, ◌≤◌, Bool, cond, List, [], ◌∷◌, take, length, Option, None, refl, arith, rules}
use Rattle.std.proofs.lemmas.Grind.{common_steps}
use Rattle.std.specs.Prelude.{bytes_eq}
use Rattle.std.specs.List.{AllByRecursion}
use Rattle.text.specs.Parts.{◌>>=◌}
use Rattle.text.specs.Fields.{Form, numbers_of, made_by, read_by}
use Rattle.text.proofs.Forms.{numbers_apart}

-- where all long lists are read alike, the first elements of a list are read as all of them are
pub few_are_all : {A : Type 0} (read : List (List ℕ) → A) (long : A) (n : ℕ) (xs : List (List ℕ))
    → ((ys : List (List ℕ)) → n ≤ length ys → read ys ≡ long) → read (take n xs) ≡ read xs
few_are_all read long n xs alike = grind (arith, common_steps)

pub none_of : {A : Type 0} (b : Bool) (x y : Option A) → x ≡ None → y ≡ None → cond b x y ≡ None
none_of b x y p q = search rules

none_then : {A B : Type 0} (o : Option A) (f : A → Option B) → o ≡ None → (o >>= f) ≡ None
none_then o f e = cc

-- ---- numbers and forms

more_numbers : {A : Type 0} (limits : List ℕ) (fields : List (List ℕ)) (make : List ℕ → Option A) → length limits < length fields
    → (numbers_of limits fields >>= make) ≡ None
more_numbers limits fields make lt = none_then (numbers_of limits fields) make (numbers_apart limits fields (λ e. omega (arith, e)))

-- forms of at most n numbers
abbrev pub AreShort : {A : Type 0} → ℕ → List (Form A) → Type 0
AreShort n forms = AllByRecursion (λ f. length f.limits ≤ n) forms

pub longer_than_forms : {A : Type 0} (n : ℕ) (forms : List (Form A)) (fields : List (List ℕ)) → AreShort n forms → n + 1 < length fields
    → read_by forms fields ≡ None
longer_than_forms n forms [] short lt = absurd (omega arith)
longer_than_forms n [] (word ∷ fields) short lt = refl
longer_than_forms n (f ∷ forms) (word ∷ fields) short lt = none_of (bytes_eq word f.word) (made_by f fields) (read_by forms (word ∷ fields))
    (more_numbers f.limits fields f.made (omega (arith, short.0))) (longer_than_forms n forms (word ∷ fields) short.1 lt)
