-- A search that scans a run in strides, and then entry by entry.
use Rattle.std.proofs.Common.{◌≡◌, ℕ, zero, suc, ◌+◌, ◌<◌, ◌≤◌, List, [], ◌∷◌, length, get_or, take, drop, sym, ap, ◌∙◌, subst, refl, arith, false, rules}
use Rattle.std.proofs.lemmas.Grind.{common_steps}
use Rattle.std.specs.List.{AllByRecursion}
use Rattle.std.specs.Map.{keys_of}
use Rattle.std.specs.Cmp.{IsTotalOrder}
use Rattle.std.specs.Ordering.{is_lt}
use Rattle.std.specs.List.Sorted.{IsStrictlySortedBy}
use Rattle.std.specs.declared.cmp.Ordering.{Ordering}
use Rattle.std.specs.declared.cmp.Ordering.TheVariants.{Less, Equal, Greater}
use Rattle.std.proofs.lemmas.List.{get_or_default}
use Rattle.sorted_runs.specs.Places.{IsFoundAt, IsGap, Passes, Precedes}
use Rattle.sorted_runs.proofs.Lists.{Rises, rises_from, all_more, all_at, past_by}

pub taken_more : {X : Type 0} (P : X → Type 0) (xs : List X) (n : ℕ) (x : X) → n < length xs → x ≡ get_or xs n x → P x → AllByRecursion P (take n xs) → AllByRecursion P (take (n + 1) xs)
taken_more P xs n x lt at p h = grind (arith, common_steps)

not_less : (p : Ordering) → is_lt p ≡ false → p ≡ Less → ⊥
not_less p h e = let f = ap is_lt e in cc

module _ {K V : Type 0} {R : K → K → Ordering} (o : IsTotalOrder R) (k : K) where
  -- all before an entry that is not above the key
  below_it : (es : List (K × V)) (n : ℕ) (x : K × V) → n < length es → x ≡ get_or es n x → (R k x.0 ≡ Less → ⊥) → Rises R es → Passes R k (take n es)
  below_it es zero x lt at not h = tt
  below_it [] (suc n) x lt at not h = absurd (omega arith)
  below_it (y ∷ es) (suc n) x lt at not h = (
    past_by o k y.0 x.0 (R k y.0) refl (subst (λ (z : K × V). R y.0 z.0 ≡ Less) (sym at) (all_at (λ (z : K × V). R y.0 z.0 ≡ Less) es n x h.0 (omega arith))) not,
    below_it es n x (omega arith) at not h.1,
  )

  -- all after an entry that is not below the key
  above_it : (es : List (K × V)) (n : ℕ) (x : K × V) (p : Ordering) → n < length es → x ≡ get_or es n x → R k x.0 ≡ p → (p ≡ Greater → ⊥) → Rises R es → Precedes R k (drop (suc n) es)
  above_it [] n x p lt at is not h = absurd (omega arith)
  above_it (y ∷ es) zero x Less lt at is not h =
      all_more (λ (z : K × V). R y.0 z.0 ≡ Less) (λ (z : K × V). R k z.0 ≡ Less) es (λ z up. o.trans k y.0 z.0 (subst (λ (w : K × V). R k w.0 ≡ Less) at is) up) h.0
  above_it (y ∷ es) zero x Equal lt at is not h =
      all_more (λ (z : K × V). R y.0 z.0 ≡ Less) (λ (z : K × V). R k z.0 ≡ Less) es (λ z up. o.congr k y.0 z.0 (subst (λ (w : K × V). R k w.0 ≡ Equal) at is) ∙ up) h.0
  above_it (y ∷ es) zero x Greater lt at is not h = absurd (not refl)
  above_it (y ∷ es) (suc n) x p lt at is not h = above_it es n x p (omega arith) at is not h.1

  from_it : (es : List (K × V)) (n : ℕ) (x : K × V) → n < length es → x ≡ get_or es n x → R k x.0 ≡ Less → Precedes R k (drop (suc n) es) → Precedes R k (drop n es)
  from_it [] n x lt at is h = absurd (omega arith)
  from_it (y ∷ es) zero x lt at is h = (subst (λ (w : K × V). R k w.0 ≡ Less) at is, h)
  from_it (y ∷ es) (suc n) x lt at is h = from_it es n x (omega arith) at is h

  module _ (es : List (K × V)) (sorted : IsStrictlySortedBy R (keys_of es)) (n : ℕ) (x : K × V) (lt : n < length es) (at : x ≡ get_or es n x) where
    pub stride : is_lt (R k x.0) ≡ false → Passes R k (take n es)
    stride not = below_it es n x lt at (not_less (R k x.0) not) (rises_from R es sorted)

    -- the last one is below the key
    pub behind : n + 1 ≡ length es → R k x.0 ≡ Greater → Passes R k es
    behind last is = grind (arith, common_steps, below_it, rises_from)

    pub hit_it : R k x.0 ≡ Equal → Passes R k (take n es) → IsFoundAt R es k n
    hit_it is before = search (rules, get_or_default, above_it, rises_from)

    pub gap_it : R k x.0 ≡ Less → Passes R k (take n es) → IsGap R es k n
    gap_it is before = record {
      within = omega arith;
      before = before;
      after = from_it es n x lt at is (above_it es n x Less lt at is (λ e. cc) (rises_from R es sorted));
    }
