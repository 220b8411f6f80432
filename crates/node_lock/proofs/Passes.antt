-- What a pass's view says of its seat.
use Rattle.std.proofs.Common.{◌≡◌, ℕ, suc, ◌+◌, ◌-◌, ◌<◌, map, Bool, true, false, List, [], ◌∷◌, ◌++◌, length, refl, ap, ◌∙◌, arith, Option, Some, None, rules}
use Rattle.std.proofs.lemmas.Grind.{common_steps}
use Rattle.atomic_table.specs.Table.{Me}
use Rattle.atomic_table.specs.Seated.{TableId}
use Rattle.node_lock.specs.declared.rule.SeatView.{SeatView}
use Rattle.node_lock.specs.Trail.{Entry, Receipt}
use Rattle.node_lock.specs.Known.{Part, standing_for, new_parts, first_part, rest_parts, list_in, out_of, carried, part_of, ListsAreTrue, tally, weight}
use Rattle.node_lock.specs.Passes.{PassData, AreIdle, AreNew, AreTrue, receipt_count}
use Rattle.node_lock.proofs.Receipts.{has_receipts}

abbrev is_some : Option (List Entry) → Bool
is_some None = false
is_some (Some t) = true

-- the pass has the state, which it took with this trail
pub out_is : (b : Bool) (noted trail : List Entry) → out_of b noted ≡ Some trail → (b ≡ true) × (noted ≡ trail)
out_is b noted trail e = search rules

-- the place of the last entry
pub last_place : (noted trail after : List Entry) (e : Entry) → noted ≡ trail → after ≡ trail ++ e ∷ [] → suc (length noted) ≡ length after
last_place noted trail after e same grown = grind (arith, common_steps)

new_rest : (k passes : ℕ) → k < passes → rest_parts (new_parts k (passes - k)) ≡ new_parts (k + 1) (passes - (k + 1))
new_rest k passes h = search rules

module _ {T : Type 0} where
  abbrev seated : ℕ → List Part → Me (Option T) SeatView
  seated passes parts = (standing_for passes parts, [])

  -- the seat that the first of the remaining passes goes to
  pub dealt : (m m' : Me (Option T) SeatView) (passes k : ℕ) → k < passes → m ≡ (standing_for passes (new_parts k (passes - k)), [])
      → m' ≡ (standing_for m.0.passes (first_part m.0.parts), []) → m' ≡ (standing_for passes ((k, []) ∷ []), [])
  dealt m m' passes k h was now = search rules

  -- the seat that the others stay with
  pub left : (m m' : Me (Option T) SeatView) (passes k : ℕ) → k < passes → m ≡ (standing_for passes (new_parts k (passes - k)), [])
      → m' ≡ (standing_for m.0.passes (rest_parts m.0.parts), []) → m' ≡ (standing_for passes (new_parts (k + 1) (passes - (k + 1))), [])
  left m m' passes k h was now = search (rules, new_rest)

  pub own_part : (m : Me (Option T) SeatView) (passes k : ℕ) (l : List Receipt) → m ≡ (standing_for passes ((k, l) ∷ []), [])
      → (m.0.parts ≡ (k, list_in m.0.parts) ∷ []) × (m.1 ≡ carried m.0.holds)
  own_part m passes k l now = search rules

pub idle_snoc : (lock : TableId) (ps : List PassData) (p : PassData) → AreIdle lock ps → (p.lock ≡ lock) × (p.out ≡ None) → AreIdle lock (ps ++ p ∷ [])
idle_snoc lock [] p are is = (is, tt)
idle_snoc lock (q ∷ qs) p are is = (are.0, idle_snoc lock qs p are.1 is)

pub new_snoc : (first : ℕ) (ps : List PassData) (p : PassData) → AreNew first ps → p.number ≡ first + length ps → p.list ≡ [] → AreNew first (ps ++ p ∷ [])
new_snoc first [] p are n e = ((n ∙ (let g : first + 0 ≡ first = omega arith in g), e), tt)
new_snoc first (q ∷ qs) p are n e = let m : ℕ = length qs in
    (are.0, new_snoc (first + 1) qs p are.1 (n ∙ (let g : first + suc m ≡ (first + 1) + m = omega arith in g)) e)

pub are_true : (ps : List PassData) (trail : List Entry) → ListsAreTrue (map part_of ps) trail → AreTrue trail ps
are_true [] trail are = tt
are_true (p ∷ ps) trail are = ((are.0, has_receipts p.number trail p.list are.0), are_true ps trail are.1)

pub count_is : (ps : List PassData) → receipt_count ps ≡ tally weight (map part_of ps)
count_is [] = refl
count_is (p ∷ ps) = ap (λ (n : ℕ). length p.list + n) (count_is ps)

-- one pass is joined, of those that are left
pub joined : (parts : List Part) (own : Part) (p : PassData) (rest rest' : List PassData) (all : List Part) → own ≡ part_of p → rest ≡ p ∷ rest'
    → parts ++ map part_of rest ≡ all → (parts ++ own ∷ []) ++ map part_of rest' ≡ all
joined parts own p rest rest' all is steps h = grind (arith, common_steps)
