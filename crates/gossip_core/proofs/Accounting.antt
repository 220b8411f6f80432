-- The first element of a list that fails a test, and how the standing of a key decides whether it is accounted for.
use Rattle.std.proofs.Common.{◌≡◌, ℕ, ◌<◌, inl, inr, ⊎_elim, List, [], ◌∷◌, zero, suc, length, get_or, take, sym, ap, subst, ◌∙◌, arith}
use Rattle.std.proofs.lemmas.Grind.{common_steps}
use Rattle.std.specs.List.{All, AllByRecursion, Contains}
use Rattle.redo_core.specs.Order.{IsRising, IsFirst}
use Rattle.redo_core.specs.Keys.{key_of}
use Rattle.redo_core.specs.declared.keys.Key.{Key}
use Rattle.redo_core.proofs.Members.{here, there, which}
use Rattle.segment_theorems.specs.State.{State}
use Rattle.segment_theorems.specs.HasMeaning.{IsKeptBy}
use Rattle.gossip_core.specs.Answering.{IsCovered}
use Rattle.hot_log.specs.Kept.{ListsKeysOf}
use Rattle.log_theorems.proofs.Meanings.{from_map}

each_of : {X : Type 0} (P : X → Type 0) (xs : List X) → AllByRecursion P xs → (x : X) → Contains xs x → P x
each_of P xs all x h = grind (arith, common_steps)

tail_of : {X : Type 0} (P : X → Type 0) (y : X) (ys : List X) (i : ℕ) → All P (take (suc i) (y ∷ ys)) → All P (take i ys)
tail_of P y ys i seen = λ j d lt. seen (suc j) d (omega (arith, lt))

-- of rising elements the first that fails is the least that does
pub first_fails : {X : Type 0} (Before : X → X → Type 0) (P : X → Type 0) (xs : List X) (i : ℕ) (x : X) → IsRising Before xs → i < length xs
    → x ≡ get_or xs i x → All P (take i xs) → (P x → ⊥) → IsFirst Before (λ y. Contains xs y × (P y → ⊥)) x
first_fails Before P [] i x rising lt is seen fails = absurd (omega (arith, lt))
first_fails Before P (y ∷ ys) zero x rising lt is seen fails = record {
  has = (subst (λ z. Contains (y ∷ ys) z) (sym is) (here y ys), fails);
  least = λ z h. ⊎_elim
      (λ (e : y ≡ z). inl (sym e ∙ sym is))
      (λ (t : Contains ys z). inr (subst (λ w. Before w z) (sym is) (each_of (Before y) ys rising.0 z t)))
      (which y ys z h.0);
}
first_fails Before P (y ∷ ys) (suc i) x rising lt is seen fails =
    let rest = first_fails Before P ys i x rising.1 (omega (arith, lt)) is (tail_of P y ys i seen) fails in
    record {
      has = (there y ys x rest.has.0, fails);
      least = λ z h. ⊎_elim
          (λ (e : y ≡ z). absurd (h.1 (subst P e (seen 0 y (omega arith)))))
          (λ (t : Contains ys z). rest.least z (t, h.1))
          (which y ys z h.0);
    }

-- a kept key is accounted for
pub kept_is_covered : (s : State) (anchor : ℕ) (keys : List Key) → ListsKeysOf (IsKeptBy s anchor) keys → (key : Key) → Contains keys key
    → IsCovered s anchor key
kept_is_covered s anchor keys all key has =
    let x = from_map key_of all.kept key (subst (λ (ks : List Key). Contains ks key) all.keys_are has) in
    let kept = (all.lists.members x.0).0 x.1 in inl (x.0, kept.0, (ap (λ (y : Key). y.epoch) x.2, ap (λ (y : Key). y.number) x.2))
