-- The last of the runs.
use Rattle.std.proofs.Common.{ℕ, zero, suc, ◌<◌, ◌≤◌, List, [], ◌∷◌, length, get_or, drop, arith}
use Rattle.std.specs.List.{AllByRecursion}

-- a property of what is from the index i on is one of each that is left
pub left : {X : Type 0} (P : X → Type 0) (xs : List X) (i : ℕ) → ((j : ℕ) (d : X) → i ≤ j → j < length xs → P (get_or xs j d)) → AllByRecursion P (drop i xs)
left P [] zero h = tt
left P (x ∷ xs) zero h = (h 0 x (omega arith) (omega arith), left P xs zero (λ j d le in_range. h (suc j) d (omega arith) (omega arith)))
left P [] (suc i) h = tt
left P (x ∷ xs) (suc i) h = left P xs i (λ j d le in_range. h (suc j) d (omega arith) (omega arith))
