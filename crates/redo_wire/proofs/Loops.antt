-- A loop that reads the elements of a counted list one by one gives what reading the list gives.
use Rattle.std.proofs.Common.{◌≡◌, ℕ, suc, ◌-◌, ◌+◌, ◌≤◌, ◌<◌, List, [], ◌∷◌, ◌++◌, Ok, Err, refl, sym, ◌∙◌, arith, rules}
use Rattle.std.proofs.lemmas.Grind.{common_steps}
use Rattle.redo_wire.specs.declared.faults.WireError.{WireError}
use Rattle.redo_wire.specs.Reading.{◌>>=◌, Read}
use Rattle.redo_wire.specs.Lists.{each_at}
use Rattle.redo_wire.specs.Outcomes.{Fails}

-- what was read before, and what is still read
abbrev pub with_front : {A : Type 0} → List A → Read (List A) → Read (List A)
with_front front (Ok x) = Ok (front ++ x.0, x.1)
with_front front (Err e) = Err e

front_none : {A : Type 0} (front : List A) (read : Read (List A)) → front ≡ [] → with_front front read ≡ read
front_none front (Ok x) none = rw none refl
front_none front (Err e) none = refl

pub starts : {S A : Type 0} (step : S → List ℕ → Read A) (next : S → A → S) (front : List A) (count : ℕ) (state : S) (bytes : List ℕ) → front ≡ []
    → with_front front (each_at step next (count - 0) state bytes) ≡ each_at step next count state bytes
starts step next front count state bytes none =
    let all : count - 0 ≡ count = omega arith in
    rw all (front_none front (each_at step next count state bytes) none)

regroup : {A : Type 0} (front : List A) (n : A) (read : Read (List A)) → with_front front (read >>= λ x. Ok (n ∷ x.0, x.1)) ≡ with_front (front ++ n ∷ []) read
regroup front n read = grind (arith, common_steps)

pub goes_on : {S A : Type 0} (step : S → List ℕ → Read A) (next : S → A → S) (front : List A) (count i : ℕ) (state : S) (bytes : List ℕ) (n : A)
    (after : List ℕ) (total : Read (List A)) (grown : List A) (later : S) → i < count → step state bytes ≡ Ok (n, after)
    → with_front front (each_at step next (count - i) state bytes) ≡ total → grown ≡ front ++ n ∷ [] → later ≡ next state n
    → with_front grown (each_at step next (count - (i + 1)) later after) ≡ total
unfolding each_at
goes_on step next front count i state bytes n after total grown later lt h so_far pushed moved =
    let k : count - i ≡ suc (count - (i + 1)) = omega arith in
    let one : with_front front (each_at step next (count - i) state bytes) ≡ with_front (front ++ n ∷ [])
    (each_at step next (count - (i + 1)) (next state n) after) = rw (k, h) (regroup front n (each_at step next (count - (i + 1)) (next state n) after)) in
    rw (pushed, moved) (sym one ∙ so_far)

pub ends : {S A : Type 0} (step : S → List ℕ → Read A) (next : S → A → S) (e : WireError) (front : List A) (count i : ℕ) (state : S)
    (bytes : List ℕ) (total : Read (List A)) → i < count → Fails e (step state bytes)
    → with_front front (each_at step next (count - i) state bytes) ≡ total → Fails e total
unfolding each_at
ends step next e front count i state bytes total lt h so_far = search rules

pub is_done : {S A : Type 0} (step : S → List ℕ → Read A) (next : S → A → S) (front : List A) (count i : ℕ) (state : S) (bytes : List ℕ)
    (total : Read (List A)) → count ≤ i → with_front front (each_at step next (count - i) state bytes) ≡ total → total ≡ Ok (front, bytes)
unfolding each_at
is_done step next front count i state bytes total le so_far = search rules
