-- Lists of one, and their item.
use Rattle.std.proofs.Common.{◌≡◌, List, [], ◌∷◌, length, sym, ap, ◌∙◌, arith, Some}
use Rattle.std.specs.Prelude.{slice_get}
use Rattle.redo_core.proofs.Members.{none_in}
use Rattle.node_threads.specs.declared.refusal.WorkerRefusal.{WorkerRefusal}
use Rattle.node_threads.specs.Refusals.{AllStarted}

-- it is at the first index
pub at_first : {X : Type 0} (xs : List X) (x : X) → xs ≡ x ∷ [] → slice_get xs 0 ≡ Some x
at_first xs x is = ap (λ zs. slice_get zs 0) is

-- two lists of one that are the same have the same item
pub the_only : {X : Type 0} (xs : List X) (x y : X) → xs ≡ x ∷ [] → xs ≡ y ∷ [] → x ≡ y
the_only xs x y is also = let at : Some x ≡ Some y = sym (at_first xs x is) ∙ at_first xs y also in cc

-- where nothing is refused, all workers were started
pub none_refused : (refusals : List WorkerRefusal) → length refusals ≡ 0 → AllStarted refusals
none_refused [] e = record { none = λ worker c. absurd (none_in _ c) }
none_refused (r ∷ rs) e = absurd (omega (arith, e))
