-- Lists that are read index by index.
use Rattle.std.proofs.Common.{◌≡◌, ℕ, zero, suc, List, [], ◌∷◌, ◌++◌, Some}
use Rattle.std.specs.Prelude.{slice_get, slice_index_or}
use Rattle.std.specs.List.{Contains}
use Rattle.std.proofs.lemmas.Option.{slice_get_within, get_or_from_slice_get}

-- what is at an index is a member
pub contains_at : {X : Type 0} (xs : List X) (k : ℕ) (x : X) → slice_get xs k ≡ Some x → Contains xs x
contains_at xs k x e = (k, slice_get_within xs k x e, get_or_from_slice_get xs k x x e)

pub index_of : {X : Type 0} (xs : List X) (k : ℕ) (x d : X) → slice_get xs k ≡ Some x → slice_index_or xs k d ≡ x
index_of [] k x d e = absurd cc
index_of (y ∷ ys) zero x d e = let same : y ≡ x = cc in same
index_of (y ∷ ys) (suc k) x d e = index_of ys k x d e

-- what is at an index stays there in a longer list
pub at_longer : {X : Type 0} (xs ys : List X) (k : ℕ) (x : X) → slice_get xs k ≡ Some x → slice_get (xs ++ ys) k ≡ Some x
at_longer [] ys k x e = absurd cc
at_longer (z ∷ xs) ys zero x e = e
at_longer (z ∷ xs) ys (suc k) x e = at_longer xs ys k x e
