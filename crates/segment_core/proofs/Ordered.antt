-- Facts that a state takes one after another, put together from parts.
use Rattle.std.proofs.Common.{◌≡◌, ◌==◌, if◌then◌else◌, Bool, ℕ, zero, suc, ◌+◌, ◌<◌, ◌≤◌, ◌⊎◌, inl, inr, ⊎_elim, List, [], ◌∷◌, ◌++◌, length, get_or, take, drop, map, sym, ap, subst, arith, rules}
use Rattle.std.proofs.lemmas.Grind.{common_steps}
use Rattle.std.proofs.lemmas.List.{take-append-drop}
use Rattle.redo_core.specs.Data.{advance_of}
use Rattle.redo_core.specs.declared.facts.Fact.{Fact}
use Rattle.redo_core.specs.declared.facts.Fact.TheVariants.{Advance}
use Rattle.segment_theorems.specs.State.{State}
use Rattle.segment_core.specs.Refusing.{Refuses}
use Rattle.segment_core.specs.declared.answers.Refusal.{Refusal}
use Rattle.segment_core.specs.declared.answers.Refusal.TheVariants.{Memory}
use Rattle.segment_core.specs.Exported.{point_facts}
use Rattle.segment_core.specs.InOrder.{TakesOne, TakesEach, RefusesOne}

-- those of two lists
pub takes_append : (s : State) (fs : List Fact) (t : State) (gs : List Fact) (u : State) → TakesEach s fs t → TakesEach t gs u → TakesEach s (fs ++ gs) u
takes_append s [] t gs u first rest = subst (λ (x : State). TakesEach x gs u) first rest
takes_append s (f ∷ fs) t gs u first rest = (first.0, first.1, takes_append first.0 fs t gs u first.2 rest)

-- the first list is taken, and one of the second refused
pub refuses_later : (s : State) (fs : List Fact) (t : State) (gs : List Fact) (why : Refusal) → TakesEach s fs t → RefusesOne t gs why
    → RefusesOne s (fs ++ gs) why
refuses_later s [] t gs why first refused = subst (λ (x : State). RefusesOne x gs why) first refused
refuses_later s (f ∷ fs) t gs why first refused = inr (first.0, first.1, refuses_later first.0 fs t gs why first.2 refused)

-- one of the first list is refused
pub refuses_sooner : (s : State) (fs gs : List Fact) (why : Refusal) → RefusesOne s fs why → RefusesOne s (fs ++ gs) why
refuses_sooner s [] gs why refused = absurd refused
refuses_sooner s (f ∷ fs) gs why refused =
    ⊎_elim
    (λ (h : Refuses s f why). inl h)
    (λ (h : (between : State) × TakesOne s f between × RefusesOne between fs why). inr (h.0, h.1, refuses_sooner h.0 fs gs why h.2))
    refused

map_from : {X : Type 0} (f : X → Fact) (xs : List X) (i : ℕ) (x : X) → i < length xs → x ≡ get_or xs i x
    → map f xs ≡ (map f (take i xs) ++ f x ∷ []) ++ map f (drop (suc i) xs)
map_from f [] i x lt is = absurd (omega (arith, lt))
map_from f (y ∷ ys) zero x lt is = ap (λ z. f z ∷ map f ys) (sym is)
map_from f (y ∷ ys) (suc i) x lt is = ap (λ zs. f y ∷ zs) (map_from f ys i x (omega (arith, lt)) is)

-- a loop takes one more
pub takes_next : {X : Type 0} (f : X → Fact) (xs : List X) (i : ℕ) (x : X) (s t u : State) → i < length xs → x ≡ get_or xs i x
    → TakesEach s (map f (take i xs)) t → TakesOne t (f x) u → TakesEach s (map f (take (i + 1) xs)) u
takes_next f xs i x s t u lt is seen one = grind (arith, common_steps, takes_append)

-- a loop is refused one
pub refuses_next : {X : Type 0} (f : X → Fact) (xs : List X) (i : ℕ) (x : X) (s t : State) (why : Refusal) → i < length xs → x ≡ get_or xs i x
    → TakesEach s (map f (take i xs)) t → RefusesOne t (f x ∷ []) why → RefusesOne s (map f xs) why
refuses_next f xs i x s t why lt is seen refused =
    subst (λ fs. RefusesOne s fs why) (sym (map_from f xs i x lt is))
    (refuses_sooner s (map f (take i xs) ++ f x ∷ []) (map f (drop (suc i) xs)) why (refuses_later s (map f (take i xs)) t (f x ∷ []) why seen refused))

-- a loop has taken all
pub takes_whole : {X : Type 0} (f : X → Fact) (xs : List X) (i : ℕ) (s t : State) → length xs ≤ i → TakesEach s (map f (take i xs)) t → TakesEach s (map f xs) t
takes_whole f xs i s t end seen = grind (arith, common_steps)

-- a refusal is lack of memory, or one of another list
pub memory_or : (why : Refusal) (A B : Type 0) → (A → B) → (why ≡ Memory) ⊎ A → (why ≡ Memory) ⊎ B
memory_or why A B to refused = ⊎_elim (λ (h : why ≡ Memory). inl h) (λ (h : A). inr (to h)) refused

-- ---- readers' points
with_first : (none : Bool) (f : Fact) (all first rest : List Fact) → all ≡ first ++ rest
    → (if none then all else (f ∷ all)) ≡ (if none then first else (f ∷ first)) ++ rest
with_first none f all first rest e = search rules

point_facts_append : (epoch reader : ℕ) (ps qs : List ℕ)
    → point_facts epoch reader (ps ++ qs) ≡ point_facts epoch reader ps ++ point_facts epoch (reader + length ps) qs
point_facts_append epoch reader [] qs = let e : reader ≡ reader + 0 = omega arith in ap (λ n. point_facts epoch n qs) e
point_facts_append epoch reader (p ∷ ps) qs =
    let e : suc reader + length ps ≡ reader + suc (length ps) = omega arith in
    with_first (p == 0) (Advance (advance_of epoch reader p)) (point_facts epoch (suc reader) (ps ++ qs)) (point_facts epoch (suc reader) ps)
    (point_facts epoch (reader + suc (length ps)) qs)
    (subst (λ n. point_facts epoch (suc reader) (ps ++ qs) ≡ point_facts epoch (suc reader) ps ++ point_facts epoch n qs) e
    (point_facts_append epoch (suc reader) ps qs))

-- those up to an index, and the one there
points_next : (epoch : ℕ) (points : List ℕ) (i : ℕ) → i < length points
    → point_facts epoch 1 (take (i + 1) points) ≡ point_facts epoch 1 (take i points) ++ point_facts epoch (i + 1) (get_or points i 0 ∷ [])
points_next epoch points i lt = grind (arith, common_steps, point_facts_append)

pub takes_point : (epoch : ℕ) (points : List ℕ) (i : ℕ) (s t u : State) → i < length points → TakesEach s (point_facts epoch 1 (take i points)) t
    → TakesEach t (point_facts epoch (i + 1) (get_or points i 0 ∷ [])) u → TakesEach s (point_facts epoch 1 (take (i + 1) points)) u
takes_point epoch points i s t u lt seen one = search (rules, points_next, takes_append)

pub refuses_point : (epoch : ℕ) (points : List ℕ) (i : ℕ) (s t : State) (why : Refusal) → i < length points
    → TakesEach s (point_facts epoch 1 (take i points)) t
    → RefusesOne t (point_facts epoch (i + 1) (get_or points i 0 ∷ [])) why → RefusesOne s (point_facts epoch 1 points) why
refuses_point epoch points i s t why lt seen refused =
    let first = take (i + 1) points in let rest = drop (i + 1) points in
    let here : RefusesOne s (point_facts epoch 1 first) why =
    subst (λ fs. RefusesOne s fs why) (sym (points_next epoch points i lt))
    (refuses_later s (point_facts epoch 1 (take i points)) t (point_facts epoch (i + 1) (get_or points i 0 ∷ [])) why seen refused) in
    subst (λ ps. RefusesOne s (point_facts epoch 1 ps) why) (take-append-drop (i + 1) points)
    (subst (λ fs. RefusesOne s fs why) (sym (point_facts_append epoch 1 first rest))
    (refuses_sooner s (point_facts epoch 1 first) (point_facts epoch (1 + length first) rest) why here))
