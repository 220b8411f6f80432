-- Measures over the passes of a seat, and of all seats.
use Rattle.std.proofs.Common.{◌≡◌, ◌≢◌, ℕ, zero, suc, ◌+◌, ◌≤◌, List, [], ◌∷◌, ◌++◌, length, set, sym, refl, ap, arith, rules}
use mathlib.Core.Option.{some, some-injective, some-ne-none}
use lib.ListN.{get_elem?}
use Rattle.node_lock.specs.declared.rule.SeatView.{SeatView}
use Rattle.node_lock.specs.Known.{Part, first_part, rest_parts, tally, total, one, weight}

pub tally_append : (f : Part → ℕ) (ps qs : List Part) → tally f (ps ++ qs) ≡ tally f ps + tally f qs
tally_append f [] qs = omega arith
tally_append f (p ∷ ps) qs = omega (arith, tally_append f ps qs)

pub tally_one : (ps : List Part) → tally one ps ≡ length ps
tally_one [] = refl
tally_one (p ∷ ps) = omega (arith, tally_one ps)

pub tally_cut : (f : Part → ℕ) (ps : List Part) → tally f ps ≡ tally f (rest_parts ps) + tally f (first_part ps)
tally_cut f ps = search rules

module _ (f : Part → ℕ) where
  -- the same passes, in the view x and in the view v
  like : (x v : SeatView) → some x ≡ some v → tally f x.parts ≡ tally f v.parts
  like x v same = ap (λ (z : SeatView). tally f z.parts) (some-injective x v same)

  pub total_set : (vs : List SeatView) (i : ℕ) (v w : SeatView) → get_elem? vs i ≡ some v → total f (set vs i w) + tally f v.parts ≡ total f vs + tally f w.parts
  total_set [] i v w at = absurd (some-ne-none v (sym at))
  total_set (x ∷ xs) zero v w at = omega (arith, like x v at)
  total_set (x ∷ xs) (suc i) v w at = omega (arith, total_set xs i v w at)

  pub total_snoc : (vs : List SeatView) (w : SeatView) → total f (vs ++ w ∷ []) ≡ total f vs + tally f w.parts
  total_snoc [] w = omega arith
  total_snoc (x ∷ xs) w = omega (arith, total_snoc xs w)

  total_least : (vs : List SeatView) (i : ℕ) (v : SeatView) → get_elem? vs i ≡ some v → tally f v.parts ≤ total f vs
  total_least [] i v at = absurd (some-ne-none v (sym at))
  total_least (x ∷ xs) zero v at = omega (arith, like x v at)
  total_least (x ∷ xs) (suc i) v at = omega (arith, total_least xs i v at)

  -- two seats
  pub total_two : (vs : List SeatView) (i j : ℕ) (v u : SeatView) → get_elem? vs i ≡ some v → get_elem? vs j ≡ some u → j ≢ i
      → tally f v.parts + tally f u.parts ≤ total f vs
  total_two [] i j v u at to other = absurd (some-ne-none v (sym at))
  total_two (x ∷ xs) zero zero v u at to other = absurd (other refl)
  total_two (x ∷ xs) zero (suc j) v u at to other = omega (arith, like x v at, total_least xs j u to)
  total_two (x ∷ xs) (suc i) zero v u at to other = omega (arith, like x u to, total_least xs i v at)
  total_two (x ∷ xs) (suc i) (suc j) v u at to other = omega (arith, total_two xs i j v u at to (λ e. other (ap suc e)))

no_weight : (ps : List Part) → tally one ps ≡ 0 → tally weight ps ≡ 0
no_weight [] none = refl
no_weight (p ∷ ps) none = absurd (omega (arith, none))

no_total : (vs : List SeatView) → total one vs ≡ 0 → total weight vs ≡ 0
no_total [] none = refl
no_total (x ∷ xs) none = omega (arith, no_weight x.parts (omega (arith, none)), no_total xs (omega (arith, none)))

-- a seat that represents all passes has all receipts
pub total_alone : (vs : List SeatView) (i : ℕ) (v : SeatView) → get_elem? vs i ≡ some v → tally one v.parts ≡ total one vs → tally weight v.parts ≡ total weight vs
total_alone [] i v at all = absurd (some-ne-none v (sym at))
total_alone (x ∷ xs) zero v at all = omega (arith, like weight x v at, no_total xs (omega (arith, like one x v at, all)))
total_alone (x ∷ xs) (suc i) v at all = let none = no_weight x.parts (omega (arith, total_least one xs i v at, all)) in
    omega (arith, none, total_alone xs i v at (omega (arith, total_least one xs i v at, all)))
