-- Lines of a word and numbers, each with its limit.
use Rattle.std.specs.Prelude.{ℕ, List, [], ◌∷◌, Option, Some, None, bytes_eq, if◌then◌else◌}
use Rattle.std.specs.Borrow.{Bor}
use Rattle.text.specs.Number.{decimal_value}
use Rattle.text.specs.Parts.{◌>>=◌, parts_at}

-- as many numbers as there are limits, each at most its limit
abbrev pub numbers_of : List ℕ → List (List ℕ) → Option (List ℕ)
numbers_of [] [] = Some []
numbers_of [] (word ∷ words) = None
numbers_of (limit ∷ limits) [] = None
numbers_of (limit ∷ limits) (word ∷ words) = do
  n ← decimal_value limit word
  ns ← numbers_of limits words
  Some (n ∷ ns)

-- the number of the first field, and the fields behind it
abbrev pub first_of : ℕ → List (List ℕ) → Option (ℕ × List (List ℕ))
first_of limit [] = None
first_of limit (word ∷ rest) = decimal_value limit word >>= λ n. Some (n, rest)

-- the same where a field stands behind it
abbrev pub field_of : ℕ → List (List ℕ) → Option (ℕ × List (List ℕ))
field_of limit (word ∷ next ∷ rest) = first_of limit (word ∷ next ∷ rest)
field_of limit _ = None

-- as many numbers as there are limits, each of a field with another behind it, and the fields behind them
abbrev pub numbers_then : List ℕ → List (List ℕ) → Option (List ℕ × List (List ℕ))
numbers_then [] fields = Some ([], fields)
numbers_then (limit ∷ limits) fields = do
  first ← field_of limit fields
  others ← numbers_then limits first.1
  Some (first.0 ∷ others.0, others.1)

-- the fields of a text; none where there is no text
abbrev pub fields_in : Option (Bor (List ℕ)) → List (List ℕ)
fields_in None = []
fields_in (Some text) = parts_at 32 text.now

-- what so many numbers make
abbrev pub of_one : {A : Type 0} → (ℕ → Option A) → List ℕ → Option A
of_one make (a ∷ []) = make a
of_one make _ = None

abbrev pub of_two : {A : Type 0} → (ℕ → ℕ → Option A) → List ℕ → Option A
of_two make (a ∷ b ∷ []) = make a b
of_two make _ = None

abbrev pub of_three : {A : Type 0} → (ℕ → ℕ → ℕ → Option A) → List ℕ → Option A
of_three make (a ∷ b ∷ c ∷ []) = make a b c
of_three make _ = None

abbrev pub of_five : {A : Type 0} → (ℕ → ℕ → ℕ → ℕ → ℕ → Option A) → List ℕ → Option A
of_five make (a ∷ b ∷ c ∷ d ∷ e ∷ []) = make a b c d e
of_five make _ = None

-- a form of lines: its word, the limits of the numbers behind it, and what they make
pub record Form (A : Type 0) : Type 0 where
  pub word : List ℕ
  pub limits : List ℕ
  pub made : List ℕ → Option A

abbrev pub form : {A : Type 0} → List ℕ → List ℕ → (List ℕ → Option A) → Form A
form word limits made = record { word = word; limits = limits; made = made }

-- what the fields behind the word say
abbrev pub made_by : {A : Type 0} → Form A → List (List ℕ) → Option A
made_by f fields = numbers_of f.limits fields >>= f.made

-- what a line's fields say, by the first form that has its word
abbrev pub read_by : {A : Type 0} → List (Form A) → List (List ℕ) → Option A
read_by forms [] = None
read_by [] (word ∷ fields) = None
read_by (f ∷ forms) (word ∷ fields) = if bytes_eq word f.word then made_by f fields else read_by forms (word ∷ fields)
