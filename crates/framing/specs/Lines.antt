-- Lines and their answers.
use Rattle.std.specs.Prelude.{◌≡◌, ℕ, ◌<◌, ◌≤◌, ◌⊎◌, List, [], ◌∷◌, ◌++◌, codes, length}

-- The text answers what was asked: by `long` only where that is longer than the limit, by the machine only where it is not, and by
-- `memory` where there was no room for it; but for the machine's own answer the state is the same.
abbrev pub AnswersOne : {M : Type 0} → List ℕ → List ℕ → (M → List ℕ → List ℕ → M → Type 0) → ℕ → M → List ℕ → List ℕ → M → Type 0
AnswersOne memory long answers limit old asked text new =
    ((text ≡ memory) × (new ≡ old))
    ⊎ (((limit < length asked) × (text ≡ long) × (new ≡ old))
    ⊎ ((length asked ≤ limit) × answers old asked text new))

-- the texts answer what was asked, one after another, from a first state to another one
abbrev pub AnswersEach : {M : Type 0} → (M → List ℕ → List ℕ → M → Type 0) → M → List (List ℕ) → List (List ℕ) → M → Type 0
AnswersEach answers old [] [] new = new ≡ old
AnswersEach {M} answers old (asked ∷ others) (text ∷ texts) new =
    (next : M) × answers old asked text next × AnswersEach answers next others texts new
AnswersEach answers old [] (text ∷ texts) new = ⊥
AnswersEach answers old (asked ∷ others) [] new = ⊥

-- the text with its LF answers the line without its own
abbrev pub AnswersLine : {M : Type 0} → (M → List ℕ → List ℕ → M → Type 0) → ℕ → M → List ℕ → List ℕ → M → Type 0
AnswersLine answers limit old line text new = AnswersOne (codes "memory\n") (codes "long line\n") answers limit old line text new

abbrev pub AnswersLines : {M : Type 0} → (M → List ℕ → List ℕ → M → Type 0) → ℕ → M → List (List ℕ) → List (List ℕ) → M → Type 0
AnswersLines answers limit old lines texts new = AnswersEach (AnswersLine answers limit) old lines texts new

-- the parts, of which the first is preceded by the piece
abbrev pub glued : List ℕ → List (List ℕ) → List (List ℕ)
glued piece [] = []
glued piece (part ∷ parts) = (piece ++ part) ∷ parts

-- the texts answer the first of the lines, and these are left
pub record AnswersFirst {M : Type 0} (answers : M → List ℕ → List ℕ → M → Type 0) (limit : ℕ) (old : M)
    (lines texts : List (List ℕ)) (new : M) (left : List (List ℕ)) : Type 0 where
  pub done : List (List ℕ)
  pub all : lines ≡ done ++ left
  pub answered : AnswersLines answers limit old done texts new
