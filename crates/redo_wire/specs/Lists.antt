-- Counted lists: elements one after the other, each judged by what came before it.
use Rattle.std.specs.Prelude.{ℕ, zero, suc, List, [], ◌∷◌, Ok}
use Rattle.redo_wire.specs.Reading.{◌>>=◌, Read}

-- so many elements; `step` reads one in the state that those before it left, and `next` gives the state after it
unfoldable pub each_at : {S A : Type 0} → (S → List ℕ → Read A) → (S → A → S) → ℕ → S → List ℕ → Read (List A)
each_at step next zero state bytes = Ok ([], bytes)
each_at step next (suc n) state bytes =
    step state bytes >>= λ first.
    each_at step next n (next state first.0) first.1 >>= λ others.
    Ok (first.0 ∷ others.0, others.1)
