-- Lists that are read place by place.
use Rattle.std.proofs.Common.{◌≡◌, ℕ, List, Some, subst}
use Rattle.std.specs.Prelude.{slice_get, All}
use Rattle.std.proofs.lemmas.Option.{slice_get_within}
use Rattle.redo_core.proofs.ByPlace.{index_of}

-- what holds of all holds of each
pub all_at : {X : Type 0} (xs : List X) (k : ℕ) (x : X) (P : X → Type 0) → All P xs → slice_get xs k ≡ Some x → P x
all_at xs k x P all e = subst P (index_of xs k x x e) (all k x (slice_get_within xs k x e))
