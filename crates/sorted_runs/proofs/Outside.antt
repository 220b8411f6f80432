-- What is left outside of two cuts.
use Rattle.std.proofs.Common.{◌≡◌, ℕ, zero, suc, ◌≤◌, max, List, [], ◌∷◌, length, take, drop, cond, sym, ap, ◌∙◌, refl, arith, Bool, true, false, not, ◌&&◌, rules}
use Rattle.std.proofs.lemmas.List.{take-append-drop}
use Rattle.std.specs.Global.{Vec}
use Rattle.std.specs.List.{AllByRecursion, filter, remove_range}
use Rattle.std.specs.declared.cmp.Ordering.{Ordering}
use Rattle.std.specs.declared.cmp.Ordering.TheVariants.{Less}
use Rattle.sorted_runs.specs.Rows.{entries, IsRuns}
use Rattle.sorted_runs.specs.Edits.{IsShaped, LosesBetween}
use Rattle.sorted_runs.specs.Places.{IsCut}
use Rattle.sorted_runs.proofs.Lists.{Rises, rises_from, rises_to}
use Rattle.sorted_runs.proofs.Cuts.{past_end, before_start, within}

module _ {K V : Type 0} (f g : K → Bool) where
  abbrev outside : K × V → Bool
  outside e = not (f e.0 && not (g e.0))

  stays : (x : K × V) (xs : List (K × V)) → (f x.0 && not (g x.0)) ≡ false → filter outside (x ∷ xs) ≡ x ∷ filter outside xs
  stays x xs h = ap (λ b. cond (not b) (x ∷ filter outside xs) (filter outside xs)) h

  goes : (x : K × V) (xs : List (K × V)) → (f x.0 && not (g x.0)) ≡ true → filter outside (x ∷ xs) ≡ filter outside xs
  goes x xs h = ap (λ b. cond (not b) (x ∷ filter outside xs) (filter outside xs)) h

  all_stay : (es : List (K × V)) → AllByRecursion (λ (e : K × V). g e.0 ≡ true) es → filter outside es ≡ es
  all_stay [] h = refl
  all_stay (x ∷ es) h = stays x es (past_end (f x.0) (g x.0) h.0) ∙ ap (λ l. x ∷ l) (all_stay es h.1)

  crossed : (es : List (K × V)) (p q : ℕ) → q ≤ p → AllByRecursion (λ (e : K × V). f e.0 ≡ false) (take p es) → AllByRecursion (λ (e : K × V). g e.0 ≡ true) (drop q es) → filter outside es ≡ es
  crossed es p zero le low over = all_stay es over
  crossed es zero (suc q) le low over = absurd (omega arith)
  crossed [] (suc p) (suc q) le low over = refl
  crossed (x ∷ es) (suc p) (suc q) le low over = stays x es (before_start (f x.0) (g x.0) low.0) ∙ ap (λ l. x ∷ l) (crossed es p q (omega arith) low.1 over)

  around : (es : List (K × V)) (p q : ℕ) → p ≤ q → AllByRecursion (λ (e : K × V). f e.0 ≡ false) (take p es) → AllByRecursion (λ (e : K × V). f e.0 ≡ true) (drop p es) → AllByRecursion (λ (e : K × V). g e.0 ≡ false) (take q es) → AllByRecursion (λ (e : K × V). g e.0 ≡ true) (drop q es) → filter outside es ≡ remove_range es p q
  around es zero zero le low high under over = all_stay es over
  around es (suc p) zero le low high under over = absurd (omega arith)
  around [] zero (suc q) le low high under over = refl
  around [] (suc p) (suc q) le low high under over = refl
  around (x ∷ es) zero (suc q) le low high under over = goes x es (within (f x.0) (g x.0) high.0 under.0) ∙ around es zero q (omega arith) tt high.1 under.1 over
  around (x ∷ es) (suc p) (suc q) le low high under over = stays x es (before_start (f x.0) (g x.0) low.0) ∙ ap (λ l. x ∷ l) (around es p q (omega arith) low.1 high under.1 over)

  outside_cuts : (es : List (K × V)) (p q : ℕ) → IsCut f es p → IsCut g es q → filter (λ (e : K × V). not (f e.0 && not (g e.0))) es ≡ remove_range es p (max p q)
  outside_cuts es p q from to = search (rules, crossed, take-append-drop, around)

either : {X : Type 0} (P : List X → Type 0) (b : Bool) (xs ys : List X) → P xs → P ys → P (cond b xs ys)
either P b xs ys h k = search rules

all_left : {X : Type 0} (P : X → Type 0) (t : X → Bool) (xs : List X) → AllByRecursion P xs → AllByRecursion P (filter t xs)
all_left P t [] h = tt
all_left P t (x ∷ xs) h = either (AllByRecursion P) (t x) (x ∷ filter t xs) (filter t xs) (h.0, all_left P t xs h.1) (all_left P t xs h.1)

rises_left : {K V : Type 0} (R : K → K → Ordering) (t : K × V → Bool) (es : List (K × V)) → Rises R es → Rises R (filter t es)
rises_left R t [] h = tt
rises_left R t (x ∷ es) h = either (Rises R) (t x) (x ∷ filter t es) (filter t es) (all_left (λ y. R x.0 y.0 ≡ Less) t es h.0, rises_left R t es h.1) (rises_left R t es h.1)

-- the entries between the bounds have gone
module _ {K V : Type 0} {R : K → K → Ordering} (f g : K → Bool) (fs : List K) (vs : List (Vec (K × V))) (len : ℕ) (inv : IsRuns R fs vs len) (p q : ℕ) (from : IsCut f (entries vs) p) (to : IsCut g (entries vs) q) (new : List (Vec (K × V))) (loses : LosesBetween vs p (max p q) new) where
  pub outside_is : entries new ≡ filter (λ (e : K × V). not (f e.0 && not (g e.0))) (entries vs)
  outside_is = loses ∙ sym (outside_cuts f g (entries vs) p q from to)

  pub outside_runs : (fs' : List K) (len' : ℕ) → IsShaped fs' new → len' ≡ length (entries new) → IsRuns R fs' new len'
  outside_runs fs' len' formed counted = search (rules, outside_is, rises_to, rises_left, rises_from)
