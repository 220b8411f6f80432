-- What a loop over fields keeps.
use Rattle.std.proofs.Common.{◌≡◌, ◌≤◌, List, ◌++◌, Bor, Some, ℕ, length, map, take, drop, arith}
use Rattle.std.proofs.lemmas.Grind.{common_steps}
use Rattle.std.specs.declared.option.Option.{Option}
use Rattle.text.specs.Parts.{◌>>=◌}
use Rattle.text.specs.Fields.{numbers_of}

-- the values so far, and then the others
abbrev pub with_front : {A : Type 0} → List A → Option (List A) → Option (List A)
with_front front rest = rest >>= λ xs. Some (front ++ xs)

-- ---- numbers, one by one

pub numbers_read : (limits numbers : List ℕ) (fields : List (Bor (List ℕ))) (i : ℕ) → length limits ≤ i → length fields ≤ i → length numbers ≤ i
    → with_front (take i numbers) (numbers_of (drop i limits) (map (λ x. x.now) (drop i fields))) ≡ Some numbers
numbers_read limits numbers fields i l f n = grind (arith, common_steps)
