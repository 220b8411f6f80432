-- A position that a quorum of parts has reached is reached by every union that meets the quorum.
use Rattle.std.specs.Prelude.{◌≡◌, ℕ, ◌+◌, ◌<◌, ◌≤◌, ◌⊎◌, Bool, true, false, List, [], ◌∷◌, ◌++◌, length}
use Rattle.std.specs.List.{AllByRecursion, AllZip}
use Rattle.redo_core.specs.Sets.{IsPart}
use Rattle.redo_core.specs.Position.{Position, IsPosition}
use Rattle.redo_core.specs.Sound.{IsSound}
use Rattle.redo_core.specs.declared.facts.Fact.{Fact}

-- the complete epoch and complete point of the facts are at or above (k, n)
abbrev pub IsAtOrAbove : ℕ → ℕ → ℕ → List Fact → Type 0
IsAtOrAbove roster k n facts = (f : Position) × IsPosition roster facts f × ((k < f.epoch) ⊎ ((k ≡ f.epoch) × (n ≤ f.complete)))

-- how many of a choice are chosen
abbrev pub chosen_count : List Bool → ℕ
chosen_count [] = 0
chosen_count (true ∷ bs) = 1 + chosen_count bs
chosen_count (false ∷ bs) = chosen_count bs

-- the union of the chosen parts
abbrev pub union_of : List Bool → List (List Fact) → List Fact
union_of [] parts = []
union_of (b ∷ bs) [] = []
union_of (true ∷ bs) (part ∷ parts) = part ++ union_of bs parts
union_of (false ∷ bs) (part ∷ parts) = union_of bs parts

-- Of some parts of a log, those that `reached` marks are at or above (k, n). Where those and the chosen ones are together more than
-- the parts, the union of the chosen ones is at or above (k, n).
abbrev pub Overlap : Type 0
Overlap =
    (roster : ℕ) (log : List Fact) (parts : List (List Fact)) (reached chosen : List Bool) (k n : ℕ)
    → IsSound roster log → AllByRecursion (λ part. IsPart part log) parts
    → AllZip (λ b part. b ≡ true → IsAtOrAbove roster k n part) reached parts → length chosen ≡ length parts
    → length parts < chosen_count reached + chosen_count chosen
    → IsAtOrAbove roster k n (union_of chosen parts)
