-- The greatest of accepted truncations, one after another.
use Rattle.std.proofs.Common.{◌≡◌, ℕ, ◌+◌, ◌<◌, ◌⊎◌, inl, inr, ⊎_elim, List, [], ◌∷◌, ◌++◌, length, take, get_or, Option, Some, None, refl, sym, subst, arith}
use Rattle.std.specs.List.{Contains}
use Rattle.std.proofs.lemmas.List.{take_more}
use Rattle.std.proofs.lemmas.List.Elements.{Contains-append_left, Contains-push, Contains-push_cases}
use Rattle.guard.specs.declared.requests.AcceptedCut.{AcceptedCut}
use Rattle.volume.specs.Fencing.{IsNotLater, IsLaterPair, IsGreatestPair}

-- ---- the order
not_later-itself : (one : AcceptedCut) → IsNotLater one one
not_later-itself one = inr (refl, omega arith)

not_later-before : (one best new : AcceptedCut) → IsNotLater one best → IsLaterPair (Some new) (Some best) → IsNotLater one new
not_later-before one best new (inl below) (inl above) = inl (omega arith)
not_later-before one best new (inl below) (inr same) = inl (omega arith)
not_later-before one best new (inr equal) (inl above) = inl (omega arith)
not_later-before one best new (inr equal) (inr same) = inr (omega arith, omega arith)

not_later-else : (best new : AcceptedCut) → (IsLaterPair (Some new) (Some best) → ⊥) → IsNotLater new best
not_later-else best new never = grind (arith, never)

-- ---- one more
same_pair : (new other : AcceptedCut) → Some new ≡ Some other → new ≡ other
same_pair new other same = cc

later_is_greatest : (pairs : List (Option AcceptedCut)) (new best : Option AcceptedCut) → IsGreatestPair pairs best → IsLaterPair new best
    → IsGreatestPair (pairs ++ new ∷ []) new
later_is_greatest pairs None best all later = absurd later
later_is_greatest pairs (Some new) None all later = (
  Contains-push pairs (Some new),
  λ other in_all. ⊎_elim
      (λ (before : Contains pairs (Some other)). absurd (all other before))
      (λ (same : Some new ≡ Some other). subst (λ (o : AcceptedCut). IsNotLater o new) (same_pair new other same) (not_later-itself new))
      (Contains-push_cases pairs (Some new) (Some other) in_all),
)
later_is_greatest pairs (Some new) (Some best) all later = (
  Contains-push pairs (Some new),
  λ other in_all. ⊎_elim
      (λ (before : Contains pairs (Some other)). not_later-before other best new (all.1 other before) later)
      (λ (same : Some new ≡ Some other). subst (λ (o : AcceptedCut). IsNotLater o new) (same_pair new other same) (not_later-itself new))
      (Contains-push_cases pairs (Some new) (Some other) in_all),
)

earlier_keeps_greatest : (pairs : List (Option AcceptedCut)) (new best : Option AcceptedCut) → IsGreatestPair pairs best
    → (IsLaterPair new best → ⊥) → IsGreatestPair (pairs ++ new ∷ []) best
earlier_keeps_greatest pairs None None all never = λ other in_all. ⊎_elim
    (λ (before : Contains pairs (Some other)). all other before)
    (λ (same : None ≡ Some other). cc)
    (Contains-push_cases pairs None (Some other) in_all)
earlier_keeps_greatest pairs None (Some best) all never = (
  Contains-append_left pairs (None ∷ []) (Some best) all.0,
  λ other in_all. ⊎_elim
      (λ (before : Contains pairs (Some other)). all.1 other before)
      (λ (same : None ≡ Some other). cc)
      (Contains-push_cases pairs None (Some other) in_all),
)
earlier_keeps_greatest pairs (Some new) None all never = absurd (never tt)
earlier_keeps_greatest pairs (Some new) (Some best) all never = (
  Contains-append_left pairs (Some new ∷ []) (Some best) all.0,
  λ other in_all. ⊎_elim
      (λ (before : Contains pairs (Some other)). all.1 other before)
      (λ (same : Some new ≡ Some other). subst (λ (o : AcceptedCut). IsNotLater o best) (same_pair new other same) (not_later-else best new never))
      (Contains-push_cases pairs (Some new) (Some other) in_all),
)

-- the greatest of the pairs up to the next one
pub one_pair_more : (pairs : List (Option AcceptedCut)) (i : ℕ) (d best next : Option AcceptedCut) → i < length pairs
    → IsGreatestPair (take i pairs) best
    → (IsLaterPair (get_or pairs i d) best × (next ≡ get_or pairs i d)) ⊎ ((IsLaterPair (get_or pairs i d) best → ⊥) × (next ≡ best))
    → IsGreatestPair (take (i + 1) pairs) next
one_pair_more pairs i d best next lt all (inl later) =
    subst (λ (o : Option AcceptedCut). IsGreatestPair (take (i + 1) pairs) o) (sym later.1)
    (subst (λ (ps : List (Option AcceptedCut)). IsGreatestPair ps (get_or pairs i d)) (sym (take_more pairs i d lt))
    (later_is_greatest (take i pairs) (get_or pairs i d) best all later.0))
one_pair_more pairs i d best next lt all (inr other) =
    subst (λ (o : Option AcceptedCut). IsGreatestPair (take (i + 1) pairs) o) (sym other.1)
    (subst (λ (ps : List (Option AcceptedCut)). IsGreatestPair ps best) (sym (take_more pairs i d lt))
    (earlier_keeps_greatest (take i pairs) (get_or pairs i d) best all other.0))
