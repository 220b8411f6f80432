-- What the log of a drill contains.
use Rattle.std.proofs.Common.{◌≡◌, ℕ, ◌+◌, ◌-◌, ◌*◌, ◌<◌, ◌≤◌, ◌⊎◌, inl, inr, ⊎_elim, true, false, List, map, refl, sym, ap, subst, ◌∙◌, arith}
use Rattle.std.specs.Prelude.{nat_le, ◌==◌}
use Rattle.std.specs.List.{Contains, range_with_len}
use Rattle.std.proofs.lemmas.Bool.Decides.{nat_tests}
use Rattle.redo_core.specs.Data.{RecordData, CutData}
use Rattle.redo_core.specs.Sets.{records, cuts}
use Rattle.redo_core.specs.Sound.{counted}
use Rattle.redo_core.specs.declared.facts.Fact.{Fact}
use Rattle.redo_core.specs.declared.facts.Fact.TheVariants.{Record, Cut, Advance}
use Rattle.redo_core.proofs.FactParts.{record_in, cut_in}
use Rattle.named_log.specs.Soundness.FirstCuts.{first_within, some_counts}
use Rattle.named_log.specs.DrillLog.{record_of_epoch_0, record_of_epoch_1, drill_advance, drill_cut, drill_fact}
use Rattle.named_log.specs.Soundness.ByPlace.{place_in_range, has_place}

pub fact_of_epoch_0 : (n p : ℕ) → p ≤ n → drill_fact n p ≡ Record (record_of_epoch_0 p)
unfolding drill_fact
fact_of_epoch_0 n p l = let t : nat_le p n ≡ true = grind (arith, nat_tests) in rw t refl

pub fact_advance : (n : ℕ) → drill_fact n (n + 1) ≡ Advance (drill_advance n)
unfolding drill_fact
fact_advance n = let t : nat_le (n + 1) n ≡ false = grind (arith, nat_tests) in let u : (n + 1 == n + 1) ≡ true = grind (arith, nat_tests) in rw (t, u) refl

pub fact_cut : (n : ℕ) → drill_fact n (n + 2) ≡ Cut (drill_cut n)
unfolding drill_fact
fact_cut n =
    let t : nat_le (n + 2) n ≡ false = grind (arith, nat_tests) in
    let u : (n + 2 == n + 1) ≡ false = grind (arith, nat_tests) in
    let v : (n + 2 == n + 2) ≡ true = grind (arith, nat_tests) in
    rw (t, u, v) refl

pub fact_of_epoch_1 : (n j p : ℕ) → 1 ≤ j → p ≡ n + 2 + j → drill_fact n p ≡ Record (record_of_epoch_1 n j)
unfolding drill_fact
fact_of_epoch_1 n j p l e =
    let t : nat_le p n ≡ false = grind (arith, nat_tests) in
    let u : (p == n + 1) ≡ false = grind (arith, nat_tests) in
    let v : (p == n + 2) ≡ false = grind (arith, nat_tests) in
    let w : p - (n + 2) ≡ j = omega (arith, e) in
    rw (t, u, v, w) refl

-- each index has one of four kinds
abbrev pub IsKindAt : ℕ → ℕ → Fact → Type 0
IsKindAt n p f =
    ((1 ≤ p) × (p ≤ n) × (f ≡ Record (record_of_epoch_0 p)))
    ⊎ ((f ≡ Advance (drill_advance n))
    ⊎ ((f ≡ Cut (drill_cut n)) ⊎ ((j : ℕ) × (1 ≤ j) × (j ≤ n) × (f ≡ Record (record_of_epoch_1 n j)))))

pub kind_of_place : (n p : ℕ) → 1 ≤ p → p ≤ 2 * n + 2 → IsKindAt n p (drill_fact n p)
kind_of_place n p l u =
    ⊎_elim
    (λ (a : p ≤ n). inl (l, a, fact_of_epoch_0 n p a))
    (λ (b : n < p). inr (⊎_elim
    (λ (a : p ≡ n + 1). inl (ap (drill_fact n) a ∙ fact_advance n))
    (λ (c : n + 1 < p). inr (⊎_elim
    (λ (a : p ≡ n + 2). inl (ap (drill_fact n) a ∙ fact_cut n))
    (λ (d : n + 2 < p). inr (p - (n + 2), omega (arith, d), omega (arith, u), fact_of_epoch_1 n (p - (n + 2)) p (omega (arith, d)) (omega (arith, d))))
    (let t : (p ≡ n + 2) ⊎ (n + 2 < p) = grind arith in t)))
    (let t : (p ≡ n + 1) ⊎ (n + 1 < p) = grind arith in t)))
    (let t : (p ≤ n) ⊎ (n < p) = grind arith in t)

-- what the five laws depend on
pub record IsDrillLog (n : ℕ) (log : List Fact) : Type 0 where
  pub least : 2 ≤ n
  pub most : n ≤ 1048576
  pub record_is : (r : RecordData) → Contains (records log) r → ((i : ℕ) × (1 ≤ i) × (i ≤ n) × (record_of_epoch_0 i ≡ r))
      ⊎ ((j : ℕ) × (1 ≤ j) × (j ≤ n) × (record_of_epoch_1 n j ≡ r))
  pub has_epoch_0 : (i : ℕ) → 1 ≤ i → i ≤ n → Contains (records log) (record_of_epoch_0 i)
  pub has_epoch_1 : (j : ℕ) → 1 ≤ j → j ≤ n → Contains (records log) (record_of_epoch_1 n j)
  pub each_cut : (c : CutData) → Contains (cuts log) c → drill_cut n ≡ c
  pub each_counted : (c : CutData) → Contains (counted log) c → drill_cut n ≡ c
  pub has_cut : Contains (cuts log) (drill_cut n)
  pub counts_cut : Contains (counted log) (drill_cut n)

abbrev pub facts_of_drill : ℕ → List Fact
facts_of_drill n = map (drill_fact n) (range_with_len 1 (2 * n + 2))

record_kind : (n p : ℕ) (f : Fact) (r : RecordData) → f ≡ Record r → IsKindAt n p f → ((i : ℕ) × (1 ≤ i) × (i ≤ n) × (record_of_epoch_0 i ≡ r))
    ⊎ ((j : ℕ) × (1 ≤ j) × (j ≤ n) × (record_of_epoch_1 n j ≡ r))
record_kind n p f r e (inl a) = inl (p, a.0, a.1, (let q = a.2 in cc))
record_kind n p f r e (inr (inl a)) = absurd (cc)
record_kind n p f r e (inr (inr (inl a))) = absurd (cc)
record_kind n p f r e (inr (inr (inr a))) = inr (a.0, a.1, a.2, (let q = a.3 in cc))

cut_kind : (n p : ℕ) (f : Fact) (c : CutData) → f ≡ Cut c → IsKindAt n p f → drill_cut n ≡ c
cut_kind n p f c e (inl a) = absurd (let q = a.2 in cc)
cut_kind n p f c e (inr (inl a)) = absurd (cc)
cut_kind n p f c e (inr (inr (inl a))) = cc
cut_kind n p f c e (inr (inr (inr a))) = absurd (let q = a.3 in cc)

only_cut : (n : ℕ) (c : CutData) → Contains (cuts (facts_of_drill n)) c → drill_cut n ≡ c
only_cut n c h =
    let q = place_in_range (drill_fact n) 1 (2 * n + 2) (Cut c) ((cut_in (facts_of_drill n) c).0 h) in
    let u = q.2 in
    cut_kind n q.0 (drill_fact n q.0) c q.3 (kind_of_place n q.0 q.1 (omega (arith, u)))

cut_here : (n : ℕ) → Contains (cuts (facts_of_drill n)) (drill_cut n)
cut_here n = (cut_in (facts_of_drill n) (drill_cut n)).1
    (subst (Contains (facts_of_drill n)) (fact_cut n) (has_place (drill_fact n) 1 (2 * n + 2) (n + 2) (omega arith) (omega arith)))

pub drill_contents : (n : ℕ) → 2 ≤ n → n ≤ 1048576 → IsDrillLog n (facts_of_drill n)
unfolding counted
drill_contents n least most = record {
  least = least;
  most = most;
  record_is = λ r h.
      let q = place_in_range (drill_fact n) 1 (2 * n + 2) (Record r) ((record_in (facts_of_drill n) r).0 h) in
      let u = q.2 in
      record_kind n q.0 (drill_fact n q.0) r q.3 (kind_of_place n q.0 q.1 (omega (arith, u)));
  has_epoch_0 = λ i l u. (record_in (facts_of_drill n) (record_of_epoch_0 i)).1
      (subst (Contains (facts_of_drill n)) (fact_of_epoch_0 n i u) (has_place (drill_fact n) 1 (2 * n + 2) i l (omega (arith, u))));
  has_epoch_1 = λ j l u. (record_in (facts_of_drill n) (record_of_epoch_1 n j)).1
      (subst (Contains (facts_of_drill n)) (fact_of_epoch_1 n j (n + 2 + j) l refl)
      (has_place (drill_fact n) 1 (2 * n + 2) (n + 2 + j) (omega arith) (omega (arith, u))));
  each_cut = only_cut n;
  each_counted = λ c h. only_cut n c (first_within (cuts (facts_of_drill n)) c h);
  has_cut = cut_here n;
  counts_cut = let s = some_counts (cuts (facts_of_drill n)) (drill_cut n) (cut_here n) in subst (Contains (counted (facts_of_drill n)))
      (sym (only_cut n s.0 s.2)) s.1;
}
