-- What a scan of a list has seen, and the epochs that a count has reached.
use Rattle.std.proofs.Common.{rules}
use Rattle.std.proofs.Common.{◌≡◌, ℕ, zero, suc, ◌+◌, ◌<◌, ◌≤◌, ◌⊎◌, ⊎_elim, List, [], ◌∷◌, length, get_or, take, sym, ◌∙◌, subst, arith}
use Rattle.std.specs.List.{Contains, All, AllByRecursion}
use Rattle.std.proofs.lemmas.List.{take_all}
use Rattle.std.proofs.lemmas.List.Elements.{All-more, recursion_from_All}
use Rattle.redo_core.specs.Data.{CutData}
use Rattle.redo_core.specs.CompleteEpoch.{HasCutsTo, IsCompleteEpoch}

-- all of a whole list, and of one element more, as a loop reads it
pub whole : {X : Type 0} (P : X → Type 0) (xs : List X) (i : ℕ) → length xs ≤ i → All P (take i xs) → All P xs
whole P [] i l h k d q = absurd (omega (arith, q))
whole P (x ∷ xs) zero l h k d q = absurd (omega (arith, l))
whole P (x ∷ xs) (suc i) l h zero d q = h zero d (omega arith)
whole P (x ∷ xs) (suc i) l h (suc k) d q = whole P xs i (omega (arith, l)) (λ j e r. h (suc j) e (omega (arith, r))) k d (omega (arith, q))

pub one_more : {X : Type 0} (P : X → Type 0) (xs : List X) (i : ℕ) (x : X) → i < length xs → x ≡ get_or xs i x → All P (take i xs) → P x
    → All P (take (i + 1) xs)
one_more P xs i x l e all p = All-more P xs i x l all (subst P e p)

pub all_seen : {X : Type 0} (P : X → Type 0) (xs : List X) (i : ℕ) → length xs ≤ i → All P (take i xs) → AllByRecursion P xs
all_seen {X} P xs i le all = recursion_from_All P xs (subst (λ (ys : List X). All P ys) (take_all i xs le) all)

pub next_epoch : (cs : List CutData) (k : ℕ) → HasCutsTo cs k → ((c : CutData) × Contains cs c × (c.epoch ≡ k + 1)) → HasCutsTo cs (k + 1)
next_epoch cs k has c e l m = ⊎_elim (λ (q : e ≤ k). has e l q) (λ (q : e ≡ k + 1). (c.0, c.1, c.2 ∙ sym q)) (let t : (e ≤ k) ⊎ (e ≡ k + 1) = grind arith in t)

pub complete : (cs : List CutData) (k : ℕ) → HasCutsTo cs k → (((c : CutData) × Contains cs c × (c.epoch ≡ k + 1)) → ⊥) → IsCompleteEpoch cs k
complete cs k has missing = search rules
