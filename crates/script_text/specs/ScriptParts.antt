-- Texts that are read in parts.
use Rattle.std.specs.Prelude.{◌≡◌, ◌⊎◌, ℕ, List, [], ◌∷◌, ◌++◌, false, bytes_eq, codes}
use Rattle.std.specs.List.{AllByRecursion}
use Rattle.text.specs.Parts.{parts_at}

-- the text is empty, or an LF ends it
abbrev pub IsEnded : List ℕ → Type 0
IsEnded text = (text ≡ []) ⊎ ((before : List ℕ) × (text ≡ before ++ 10 ∷ []))

-- the text is lines that are not go, then the line go, and then more: what is before go, and what is behind it
pub record IsRoundGo (text before behind : List ℕ) : Type 0 where
  pub lines : List (List ℕ)
  pub ended : parts_at 10 before ≡ lines ++ ([] ∷ [])
  pub all : parts_at 10 text ≡ lines ++ (codes "go" ∷ parts_at 10 behind)
  pub others : AllByRecursion (λ line. bytes_eq line (codes "go") ≡ false) lines
