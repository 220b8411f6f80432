-- Batches of a list.
use Rattle.std.proofs.Common.{◌≡◌, ℕ, ◌<◌, ◌-◌, ◌*◌, min, List, [], ◌∷◌, length, take, drop, get_or, Some, sym, zero, suc, ap, ◌∙◌, arith}
use Rattle.std.proofs.lemmas.Grind.{common_steps}
use Rattle.std.specs.List.{slice_get}
use Rattle.std.proofs.lemmas.List.{take_rest, length-take, length-drop}

-- taking no more than there are
pub take_short : {X : Type 0} (k n : ℕ) (xs : List X) → k ≡ min (length xs) n → take k xs ≡ take n xs
take_short k n xs e = grind (arith, common_steps)

-- a batch of what is left
pub batch_is : {X : Type 0} (start k n : ℕ) (xs : List X) → k ≡ min (length (take (length xs - start) (drop start xs))) n
    → take k (take (length xs - start) (drop start xs)) ≡ take n (drop start xs)
batch_is start k n xs e = take_short k n (take (length xs - start) (drop start xs)) e ∙ ap (take n) (take_rest xs start)

-- a batch that begins within the list has elements
pub batch_some : {X : Type 0} (place : ℕ) (xs : List X) → 64 * place < length xs → 0 < length (take 64 (drop (64 * place) xs))
batch_some place xs lt = omega (arith, length-take 64 (drop (64 * place) xs), length-drop (64 * place) xs, lt)

-- the element at an index within a list
pub slice_at : {X : Type 0} (xs : List X) (i : ℕ) (x : X) → i < length xs → x ≡ get_or xs i x → slice_get xs i ≡ Some x
slice_at [] i x lt e = absurd (omega (arith, lt))
slice_at (y ∷ ys) zero x lt e = ap Some (sym e)
slice_at (y ∷ ys) (suc i) x lt e = slice_at ys i x (omega (arith, lt)) e
