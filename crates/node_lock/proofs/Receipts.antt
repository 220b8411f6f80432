-- Receipts as the trail grows.
use Rattle.std.proofs.Common.{◌≡◌, ◌≢◌, ℕ, suc, ◌+◌, ◌-◌, eqb, eq-eqb, ne_eqb, Bool, if◌then◌else◌, List, [], ◌∷◌, ◌++◌, length, length-append, slice_get, Some, sym, refl, ap, ◌∙◌, subst, arith, rules}
use mathlib.Core.Logic.{dite}
use native.Mathlib.Decide.{ℕ_discrete}
use Rattle.std.proofs.lemmas.List.{append_assoc}
use Rattle.node_lock.specs.Trail.{Entry, Receipt, receipts_from, receipts_of, HasReceipts}
use Rattle.node_lock.specs.Known.{Part, ListsAreTrue, tally, is_of, first_part, rest_parts}

grows : (b : Bool) (a : Receipt) (x y : List Receipt) → (if b then a ∷ (x ++ y) else x ++ y) ≡ (if b then a ∷ x else x) ++ y
grows b a x y = search rules

-- an entry of another pass
receipts_other : (place pass by at : ℕ) (trail : List Entry) → pass ≢ by → receipts_from place pass (trail ++ (by, at) ∷ []) ≡ receipts_from place pass trail
receipts_other place pass by at [] other = ap (λ (b : Bool). if b then (place, at) ∷ [] else []) (ne_eqb by pass (λ e. other (sym e)))
receipts_other place pass by at (e ∷ es) other =
    ap (λ (r : List Receipt). if eqb e.0 pass then (place, e.1) ∷ r else r) (receipts_other (suc place) pass by at es other)

-- an entry of the pass
receipts_own : (place pass at : ℕ) (trail : List Entry)
    → receipts_from place pass (trail ++ (pass, at) ∷ []) ≡ receipts_from place pass trail ++ (place + length trail, at) ∷ []
receipts_own place pass at [] = ap (λ (b : Bool). if b then (place, at) ∷ [] else []) (eq-eqb pass pass refl)
    ∙ ap (λ (k : ℕ). (k, at) ∷ []) (let h : place ≡ place + 0 = omega arith in h)
receipts_own place pass at (e ∷ es) = let here : Receipt = (place, e.1) in let later : List Receipt = receipts_from (suc place) pass es in
    ap (λ (r : List Receipt). if eqb e.0 pass then here ∷ r else r) (receipts_own (suc place) pass at es)
    ∙ (grows (eqb e.0 pass) here later ((suc place + length es, at) ∷ [])
    ∙ ap (λ (k : ℕ). (if eqb e.0 pass then here ∷ later else later) ++ (k, at) ∷ [])
    (let n : ℕ = length es in let h : suc place + n ≡ place + suc n = omega arith in h))

-- the list of a pass, with the receipt of the entry that it appends
pub list_grows : (pass at : ℕ) (list : List Receipt) (noted trail : List Entry) → list ≡ receipts_of pass noted → trail ≡ noted ++ (pass, at) ∷ []
    → list ++ (suc (length noted), at) ∷ [] ≡ receipts_of pass trail
list_grows pass at list noted trail was is = search (rules, receipts_own)

pub others_stay : (ps : List Part) (trail : List Entry) (by at : ℕ) → tally (is_of by) ps ≡ 0 → ListsAreTrue ps trail
    → ListsAreTrue ps (trail ++ (by, at) ∷ [])
others_stay [] trail by at none are = tt
others_stay (p ∷ ps) trail by at none are = dite (ℕ_discrete p.0 by)
    (λ hit. let h : is_of by p ≡ 1 = ap (λ (b : Bool). if b then 1 else 0) (eq-eqb p.0 by hit) in absurd (omega (arith, h, none)))
    (λ miss. (are.0 ∙ sym (receipts_other 1 p.0 by at trail miss), others_stay ps trail by at (omega (arith, none)) are.1))

pub are_append : (ps qs : List Part) (trail : List Entry) → ListsAreTrue ps trail → ListsAreTrue qs trail → ListsAreTrue (ps ++ qs) trail
are_append [] qs trail a b = b
are_append (p ∷ ps) qs trail a b = (a.0, are_append ps qs trail a.1 b)

pub are_rest : (ps : List Part) (trail : List Entry) → ListsAreTrue ps trail → ListsAreTrue (rest_parts ps) trail
are_rest ps trail a = search rules

pub are_first : (ps : List Part) (trail : List Entry) → ListsAreTrue ps trail → ListsAreTrue (first_part ps) trail
are_first ps trail a = search rules

-- what follows other entries
get_behind : (before : List Entry) (e : Entry) (es : List Entry) → slice_get (before ++ (e ∷ es)) (length before) ≡ Some e
get_behind [] e es = refl
get_behind (b ∷ before) e es = get_behind before e es

has_from : (pass : ℕ) (before trail : List Entry) → HasReceipts (before ++ trail) pass (receipts_from (suc (length before)) pass trail)
has_from pass before [] = tt
has_from pass before (e ∷ es) = let all : List Entry = before ++ (e ∷ es) in let k : ℕ = length before in
    let longer : suc (length (before ++ e ∷ [])) ≡ suc (suc k) = omega (arith, length-append before (e ∷ [])) in
    let later : HasReceipts all pass (receipts_from (suc (suc k)) pass es) = subst (λ (p : ℕ × List Entry). HasReceipts p.1 pass (receipts_from p.0 pass es))
    (λ i. (longer i, append_assoc before (e ∷ []) es i)) (has_from pass (before ++ e ∷ []) es) in
    let after : List Receipt = receipts_from (suc (suc k)) pass es in
    let have : Bool → Type 0 = λ b. HasReceipts all pass (if b then (suc k, e.1) ∷ after else after) in
    dite (ℕ_discrete e.0 pass)
    (λ hit. subst have (sym (eq-eqb e.0 pass hit))
    ((omega arith, ap (slice_get all) (let g : suc k - 1 ≡ k = omega arith in g) ∙ (get_behind before e es ∙ ap (λ (p : ℕ). Some (p, e.1)) hit)), later))
    (λ miss. subst have (sym (ne_eqb e.0 pass miss)) later)

pub has_receipts : (pass : ℕ) (trail : List Entry) (list : List Receipt) → list ≡ receipts_of pass trail → HasReceipts trail pass list
has_receipts pass trail list is = subst (HasReceipts trail pass) (sym is) (has_from pass [] trail)
