-- Words and numbers in frames.
use Rattle.std.specs.Prelude.{ℕ, List, [], ◌∷◌, ◌++◌, Option, None}
use Rattle.text.specs.Parts.{first_parts}
use Rattle.text.specs.Fields.{Form, made_by}
use Rattle.node_stream.specs.Telling.{numbered}

-- a word and numbers, each after a space, and bytes after another one
abbrev pub followed : List ℕ → List ℕ → List ℕ → List ℕ
followed word numbers bytes = numbered word numbers ++ (32 ∷ bytes)

-- what the bytes after a word and a space say by the form of the word
abbrev pub made_of : {A : Type 0} → Form A → List ℕ → Option A
made_of f text = made_by f (first_parts 32 text)

-- what so many numbers make
abbrev pub of_six : {A : Type 0} → (ℕ → ℕ → ℕ → ℕ → ℕ → ℕ → Option A) → List ℕ → Option A
of_six make (a ∷ b ∷ c ∷ d ∷ e ∷ f ∷ []) = make a b c d e f
of_six make _ = None

abbrev pub of_ten : {A : Type 0} → (ℕ → ℕ → ℕ → ℕ → ℕ → ℕ → ℕ → ℕ → ℕ → ℕ → Option A) → List ℕ → Option A
of_ten make (a ∷ b ∷ c ∷ d ∷ e ∷ f ∷ g ∷ h ∷ i ∷ j ∷ []) = make a b c d e f g h i j
of_ten make _ = None
