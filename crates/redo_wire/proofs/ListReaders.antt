-- Counted lists: what is read is encoded so, and what is encoded so is read.
use Rattle.std.proofs.Common.{◌≡◌, ℕ, zero, suc, List, [], ◌∷◌, ◌++◌, length, Ok, refl, ap, subst, ◌∙◌, append_assoc}
use Rattle.std.specs.List.{flat_map}
use Rattle.std.proofs.lemmas.List.Concat.{flat_map-cons}
use Rattle.redo_wire.specs.Reading.{◌>>=◌, Read}
use Rattle.redo_wire.specs.Lists.{each_at}
use Rattle.redo_wire.proofs.Readers.{IsBytes, bind_ok, ok_is, Takes, Takes-then, Reads}

-- each element is one that may come at its index
abbrev pub EachFrom : {S A : Type 0} → (S → A → Type 0) → (S → A → S) → S → List A → Type 0
EachFrom IsNext next state [] = Unit {0}
EachFrom IsNext next state (x ∷ xs) = IsNext state x × EachFrom IsNext next (next state x) xs

pub each_takes : {S A : Type 0} (step : S → List ℕ → Read A) (next : S → A → S) (encode : A → List ℕ) (IsNext : S → A → Type 0)
    → ((state : S) → Reads (step state) encode (IsNext state))
    → (n : ℕ) (state : S) (bytes : List ℕ) (x : List A × List ℕ) → IsBytes bytes → each_at step next n state bytes ≡ Ok x
    → Takes bytes (flat_map encode x.0) x.1 × (length x.0 ≡ n) × EachFrom IsNext next state x.0
unfolding each_at
each_takes {S} {A} step next encode IsNext reads zero state bytes x fits e =
    subst (λ (y : List A × List ℕ). Takes bytes (flat_map encode y.0) y.1 × (length y.0 ≡ 0) × EachFrom IsNext next state y.0) (ok_is ([], bytes) x e)
    (record { parts = refl; rest_fits = fits }, refl, tt)
each_takes {S} {A} step next encode IsNext reads (suc n) state bytes x fits e =
    let a = bind_ok (step state bytes) (λ first. each_at step next n (next state first.0) first.1 >>= λ others. Ok (first.0 ∷ others.0, others.1)) x e in
    let b = bind_ok (each_at step next n (next state a.0.0) a.0.1) (λ others. Ok (a.0.0 ∷ others.0, others.1)) x a.2 in
    let first = (reads state).takes bytes a.0 fits a.1 in
    let second = each_takes step next encode IsNext reads n (next state a.0.0) a.0.1 b.0 first.0.rest_fits b.1 in
    let both = Takes-then bytes (encode a.0.0) a.0.1 (flat_map encode b.0.0) b.0.1 first.0 second.0 in
    let made : List A × List ℕ = (a.0.0 ∷ b.0.0, b.0.1) in
    subst (λ (y : List A × List ℕ). Takes bytes (flat_map encode y.0) y.1 × (length y.0 ≡ suc n) × EachFrom IsNext next state y.0) (ok_is made x b.2)
    (rw flat_map-cons both, ap suc second.1, (first.1, second.2))

pub each_again : {S A : Type 0} (step : S → List ℕ → Read A) (next : S → A → S) (encode : A → List ℕ) (IsNext : S → A → Type 0)
    → ((state : S) → Reads (step state) encode (IsNext state))
    → (xs : List A) (state : S) (rest : List ℕ) → EachFrom IsNext next state xs
    → each_at step next (length xs) state (flat_map encode xs ++ rest) ≡ Ok (xs, rest)
unfolding each_at
each_again step next encode IsNext reads [] state rest fits = refl
each_again step next encode IsNext reads (x ∷ xs) state rest fits =
    let regrouped : flat_map encode (x ∷ xs) ++ rest ≡ encode x ++ (flat_map encode xs ++ rest) = ap (λ (t : List ℕ). t ++ rest) (flat_map-cons encode x xs)
    ∙ append_assoc (encode x) (flat_map encode xs) rest in
    ap (each_at step next (suc (length xs)) state) regrouped
    ∙ rw ((reads state).again x (flat_map encode xs ++ rest) fits.0, each_again step next encode IsNext reads xs (next state x) rest fits.1) refl
