-- The parts of a text, and steps that may find nothing.
use Rattle.std.specs.Prelude.{◌≡◌, ℕ, ◌==◌, List, [], ◌∷◌, ◌++◌, take, Option, Some, None}
use Rattle.std.specs.List.{slice_split}

-- the parts between the bytes of that value
abbrev pub parts_at : ℕ → List ℕ → List (List ℕ)
parts_at separator text = slice_split (λ b. b == separator) text

-- the text in two, the first of which ends in the separator
pub record IsCutBehind (separator : ℕ) (text front behind : List ℕ) : Type 0 where
  pub whole : text ≡ front ++ behind
  pub before : List ℕ
  pub ends : front ≡ before ++ separator ∷ []

-- how many parts of a text are looked at: more than any line has
abbrev pub most_parts : ℕ
most_parts = 66

-- the first parts: all, where there are no more than are looked at
unfoldable pub first_parts : ℕ → List ℕ → List (List ℕ)
first_parts separator text = take most_parts (parts_at separator text)

-- what was found, and then the next step
infixl 10 ◌>>=◌
abbrev pub ◌>>=◌ : {A B : Type 0} → Option A → (A → Option B) → Option B
(Some x) >>= f = f x
None >>= f = None
