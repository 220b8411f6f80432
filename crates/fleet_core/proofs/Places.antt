-- Nodes that a step names, and lists changed at one place.
use Rattle.std.proofs.Common.{◌≡◌, ℕ, zero, suc, ◌<◌, ◌≤◌, List, [], ◌∷◌, ◌++◌, length, get_or, rules}
use Rattle.std.proofs.Common.{set, refl, ap, arith, Bool, Some, None, ◌⊎◌}
use Rattle.std.proofs.lemmas.Grind.{common_steps}
use Rattle.std.specs.Prelude.{◌==◌, ◌||◌, nat_lt, if◌then◌else◌, slice_get, unwrap_or}
use Rattle.std.specs.List.{AllZip, AllByRecursion}
use Rattle.std.proofs.lemmas.Option.{get_or_from_slice_get, unwrap_or-slice_get}
use Rattle.segment_theorems.specs.State.{State}
use Rattle.script_steps.specs.Nodes.{node_of, other_of, nodes_of, first_missing}
use Rattle.script_steps.specs.declared.steps.Step.{Step}
use Rattle.fleet_core.specs.FleetState.{other_than}

-- two nodes that are there, of so many
pub record AreThere (count node other : ℕ) : Type 0 where
  pub low : 0 < node
  pub high : node ≤ count
  pub other_low : 0 < other
  pub other_high : other ≤ count

no_place : (count node : ℕ) (b : Bool) → b ≡ (node == 0 || nat_lt count node) → (node ≡ 0) ⊎ (count < node)
    → (if b then Some node else None) ≡ Some node
no_place count node b e out = search rules

-- a node that is not there
pub is_missing : (count node : ℕ) → (node ≡ 0) ⊎ (count < node) → first_missing count (node ∷ []) ≡ Some node
is_missing count node out = no_place count node (node == 0 || nat_lt count node) refl out

a_place : (count node : ℕ) (b : Bool) → b ≡ (node == 0 || nat_lt count node) → 0 < node → node ≤ count → (if b then Some node else None) ≡ None
a_place count node b e low high = search rules

-- a node that is
pub none_is_missing : (count node : ℕ) → 0 < node → node ≤ count → first_missing count (node ∷ []) ≡ None
none_is_missing count node low high = a_place count node (node == 0 || nat_lt count node) refl low high

-- where none of its nodes is missing, they are nodes from 1 on
pub are_there : {F : Type 0} (count : ℕ) (step : Step F) → first_missing count (nodes_of step) ≡ None → AreThere count (node_of step) (other_of step)
are_there count step none = search rules

-- the segment at the other place, which is the first one where the places are one
beside_by : (xs : List State) (place other : ℕ) (x : State) (b : Bool) → b ≡ (place == other) → slice_get xs place ≡ Some x
    → get_or xs other x ≡ unwrap_or (if b then None else slice_get xs other) x
beside_by xs place other x b e there = search (rules, get_or_from_slice_get, unwrap_or-slice_get)

pub beside_is : (xs : List State) (place other : ℕ) (x : State) → slice_get xs place ≡ Some x → get_or xs other x ≡ unwrap_or (other_than xs place other) x
beside_is xs place other x there = beside_by xs place other x (place == other) refl there

-- ---- lists changed at one place

pub zip_at : {A B : Type 0} (R : A → B → Type 0) (xs : List A) (ys : List B) (i : ℕ) (d : A) (e : B) → AllZip R xs ys → i < length ys
    → R (get_or xs i d) (get_or ys i e)
zip_at R [] [] i d e all lt = absurd (omega (arith, lt))
zip_at R [] (y ∷ ys) i d e all lt = absurd all
zip_at R (x ∷ xs) [] i d e all lt = absurd all
zip_at R (x ∷ xs) (y ∷ ys) zero d e all lt = all.0
zip_at R (x ∷ xs) (y ∷ ys) (suc i) d e all lt = zip_at R xs ys i d e all.1 (omega (arith, lt))

pub zip_set : {A B : Type 0} (R : A → B → Type 0) (xs : List A) (ys : List B) (i : ℕ) (x : A) (y : B) → AllZip R xs ys → R x y
    → AllZip R (set xs i x) (set ys i y)
zip_set R [] [] i x y all r = all
zip_set R [] (b ∷ bs) i x y all r = absurd all
zip_set R (a ∷ as') [] i x y all r = absurd all
zip_set R (a ∷ as') (b ∷ bs) zero x y all r = (r, all.1)
zip_set R (a ∷ as') (b ∷ bs) (suc i) x y all r = (all.0, zip_set R as' bs i x y all.1 r)

pub zip_count : {A B : Type 0} (R : A → B → Type 0) (xs : List A) (ys : List B) → AllZip R xs ys → length xs ≡ length ys
zip_count R [] [] all = refl
zip_count R [] (y ∷ ys) all = absurd all
zip_count R (x ∷ xs) [] all = absurd all
zip_count R (x ∷ xs) (y ∷ ys) all = ap (λ n. suc n) (zip_count R xs ys all.1)

pub all_at : {A : Type 0} (P : A → Type 0) (xs : List A) (i : ℕ) (d : A) → P d → AllByRecursion P xs → P (get_or xs i d)
all_at P xs i d default all = grind (arith, common_steps)

pub all_set : {A : Type 0} (P : A → Type 0) (xs : List A) (i : ℕ) (x : A) → P x → AllByRecursion P xs → AllByRecursion P (set xs i x)
all_set P xs i x p all = grind (arith, common_steps)

pub all_but_last : {X : Type 0} (P : X → Type 0) (xs : List X) (x : X) → AllByRecursion P (xs ++ x ∷ []) → AllByRecursion P xs × P x
all_but_last P [] x all = (all.1, all.0)
all_but_last P (y ∷ ys) x all = let rest = all_but_last P ys x all.1 in ((all.0, rest.0), rest.1)
