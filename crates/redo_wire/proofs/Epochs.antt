-- The complete epoch that reading computes is the complete epoch of the truncations.
use Rattle.std.proofs.Common.{◌≡◌, ℕ, zero, suc, ◌+◌, ◌<◌, ◌≤◌, true, ltb, List, [], ◌∷◌, refl, ap, subst, arith, inl, inr, rules}
use Rattle.std.specs.List.{Contains, AllByRecursion}
use Rattle.std.proofs.lemmas.Bool.{ltb-true, lt-ltb, eq-eqb, ne_eqb, cases_lt, cases_eq}
use Rattle.redo_core.specs.Data.{CutData}
use Rattle.redo_core.specs.Order.{IsRising, CutBefore}
use Rattle.redo_core.specs.CompleteEpoch.{IsCompleteEpoch}
use Rattle.redo_wire.specs.BookReading.{cut_epoch, complete, complete_from}
use Rattle.redo_wire.proofs.ListReaders.{EachFrom}
use Rattle.redo_wire.proofs.Orders.{All-weaker, each_from_rising, cut_tests}

abbrev IsNextEpoch : ℕ → CutData → Type 0
IsNextEpoch last c = (ltb last c.epoch ≡ true) × (0 < c.epoch)

none : (e : ℕ) (c : CutData) → Contains [] c → ⊥
none e c (j, lt, p) = omega arith

all_above : (last : ℕ) (cs : List CutData) (x : CutData) → EachFrom IsNextEpoch cut_epoch last cs → Contains cs x → last < x.epoch
all_above last [] x each h = absurd (none 0 x h)
all_above last (c ∷ cs) x each (zero, lt, p) = let a : last < c.epoch = ltb-true _ _ each.0.0 in subst (λ (y : CutData). last < y.epoch) p a
all_above last (c ∷ cs) x each (suc j, lt, p) =
    let a : last < c.epoch = ltb-true _ _ each.0.0 in
    let b : c.epoch < x.epoch = all_above c.epoch cs x each.1 (j, omega arith, p) in
    omega arith

found : (k : ℕ) (cs : List CutData) (e : ℕ) → k < e → e ≤ complete_from k cs → (c : CutData) × Contains cs c × (c.epoch ≡ e)
found k [] e lt le = absurd (omega arith)
found k (c ∷ cs) e lt le =
    elim (cases_eq c.epoch (k + 1)) [
      | inl same ↦ elim (cases_eq e (k + 1)) [
        | inl here ↦ (c, (0, omega arith, refl), omega arith)
        | inr other ↦
            let le' : e ≤ complete_from (k + 1) cs = rw (eq-eqb c.epoch (k + 1) same) at le in
            let r = found (k + 1) cs e (omega (arith, other)) le' in
            (r.0, (suc r.1.0, omega (arith, r.1.1), r.1.2), r.2)
      ]
      | inr differ ↦
          let le' : e ≤ k = rw (ne_eqb c.epoch (k + 1) differ) at le in
          absurd (omega arith)
    ]

later : (k : ℕ) (c : CutData) (cs : List CutData) (e : ℕ) → c.epoch ≡ k + 1 → k + 1 < e → (x : CutData) × Contains (c ∷ cs) x × (x.epoch ≡ e)
    → (x : CutData) × Contains cs x × (x.epoch ≡ e)
later k c cs e same lt h = search rules

gap : (k : ℕ) (c : CutData) (cs : List CutData) → k + 1 < c.epoch → EachFrom IsNextEpoch cut_epoch c.epoch cs
    → (x : CutData) × Contains (c ∷ cs) x × (x.epoch ≡ k + 1) → ⊥
gap k c cs lt each (x, (zero, in_list, p), is) = let q : c.epoch ≡ x.epoch = ap (λ (y : CutData). y.epoch) p in omega arith
gap k c cs lt each (x, (suc j, in_list, p), is) = let b : c.epoch < x.epoch = all_above c.epoch cs x each (j, omega arith, p) in omega arith

most : (k : ℕ) (cs : List CutData) (m : ℕ) → EachFrom IsNextEpoch cut_epoch k cs → ((e : ℕ) → k < e → e ≤ m → (c : CutData) × Contains cs c × (c.epoch ≡ e))
    → m ≤ complete_from k cs
most k [] m each has =
    elim (cases_lt k m) [
      | inl lt ↦ let h = has m lt (omega arith) in absurd (none m h.0 h.1)
      | inr le ↦ le
    ]
most k (c ∷ cs) m each has =
    let above : k < c.epoch = ltb-true _ _ each.0.0 in
    elim (cases_eq c.epoch (k + 1)) [
      | inl same ↦
          let rest : EachFrom IsNextEpoch cut_epoch (k + 1) cs = subst (λ (n : ℕ). EachFrom IsNextEpoch cut_epoch n cs) same each.1 in
          rw (eq-eqb c.epoch (k + 1) same) (most (k + 1) cs m rest (λ e lt le. later k c cs e same lt (has e (omega arith) le)))
      | inr differ ↦
          rw (ne_eqb c.epoch (k + 1) differ) (elim (cases_lt k m) [
            | inl lt ↦ absurd (gap k c cs (omega (arith, differ)) each.1 (has (k + 1) (omega arith) (omega arith)))
            | inr le ↦ le
          ])
    ]

pub is_complete : (cs : List CutData) → IsRising CutBefore cs → AllByRecursion (λ c. 0 < c.epoch) cs → IsCompleteEpoch cs (complete cs)
is_complete cs rising all =
    let first = All-weaker (λ (c : CutData). 0 < c.epoch) (λ c. ltb 0 c.epoch ≡ true) (λ c lt. lt-ltb 0 c.epoch lt) cs all in
    let each : EachFrom IsNextEpoch cut_epoch 0 cs = each_from_rising (λ last c. ltb last c.epoch) (λ (c : CutData). c.epoch) CutBefore (λ c. 0 < c.epoch)
    cut_tests 0 cs first rising all in
    (inr (λ e one le. found 0 cs e (omega arith) le), λ m has. most 0 cs m each (λ e lt le. has e (omega arith) le))
