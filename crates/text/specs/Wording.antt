-- Texts of words and numbers.
use Rattle.std.specs.Prelude.{◌≡◌, ℕ, ◌≤◌, List, [], ◌∷◌, ◌++◌, map, codes}
use Rattle.std.specs.List.{AllZip, join_with_byte}
use Rattle.std.specs.Borrow.{Bor}
use Rattle.std.specs.Fmt.{decimal}
use Rattle.text.specs.Fields.{Form}

-- fields between single spaces
abbrev pub spaced : List (List ℕ) → List ℕ
spaced fields = join_with_byte 32 fields

-- a word and numbers
abbrev pub worded : List ℕ → List ℕ → List ℕ
worded word numbers = spaced (word ∷ map decimal numbers)

-- the same as a line, with its LF
abbrev pub worded_line : List ℕ → List ℕ → List ℕ
worded_line word [] = word ++ codes "\n"
worded_line word (n ∷ ns) = word ++ (32 ∷ worded_line (decimal n) ns)

-- numbers, each behind its label
abbrev pub labelled : List (Bor (List ℕ) × ℕ) → List ℕ
labelled [] = []
labelled ((label, n) ∷ []) = label.now ++ decimal n
labelled ((label, n) ∷ next ∷ others) = label.now ++ (decimal n ++ labelled (next ∷ others))

-- a word, and numbers, each with its limit
pub record EncodesForm (line word limits numbers : List ℕ) : Type 0 where
  pub all : line ≡ worded word numbers
  pub limited : AllZip (λ n limit. n ≤ limit) numbers limits

-- the word of a form, and numbers within its limits
abbrev pub EncodesBy : {A : Type 0} → Form A → List ℕ → List ℕ → Type 0
EncodesBy f line numbers = EncodesForm line f.word f.limits numbers
