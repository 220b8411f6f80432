-- The log of a drill is sound.
use Rattle.std.proofs.Common.{◌≡◌, ℕ, zero, suc, ◌+◌, ◌-◌, ◌*◌, ◌/◌, ◌%◌, ◌<◌, ◌≤◌, ◌⊎◌, inl, inr, ⊎_elim, true, false, List, [], ◌∷◌, take, refl, sym, ap, subst, ◌∙◌, arith, Some, None}
use Rattle.std.specs.Prelude.{nat_le, nat_lt, ◌==◌, slice_get, if◌then◌else◌}
use Rattle.std.specs.List.{Contains}
use Rattle.std.proofs.lemmas.Bool.Decides.{nat_tests}
use Rattle.redo_core.specs.Data.{RecordData, CutData}
use Rattle.redo_core.specs.Shape.{cut_fault, advance_fault}
use Rattle.redo_core.specs.Sets.{records}
use Rattle.redo_core.specs.Sound.{SameKey, KeepsLaws, IsSound}
use Rattle.redo_core.specs.declared.facts.Fact.{Fact}
use Rattle.redo_core.specs.declared.facts.Fact.TheVariants.{Record, Cut, Advance}
use Rattle.named_log.specs.Places.{fact_at}
use Rattle.redo_core.proofs.Members.{none_in, here, there, which}
use Rattle.redo_core.proofs.FactParts.{record_in, cut_in}
use Rattle.named_log.specs.DrillLog.{record_of_epoch_0, record_of_epoch_1, drill_advance, drill_cut, drill_fact, drill_log, drill_hi, last_of_page}
use Rattle.named_log.specs.Soundness.Remainders.{half_at_most, half_positive}
use Rattle.named_log.specs.Soundness.ByPlace.{get_place, get_past}
use Rattle.named_log.specs.Soundness.Shapes.{shape}
use Rattle.named_log.specs.Soundness.Contents.{IsDrillLog, IsKindAt, kind_of_place, facts_of_drill, drill_contents, fact_of_epoch_0, fact_advance, fact_cut, fact_of_epoch_1}
use Rattle.named_log.specs.Soundness.Laws.{opens_epoch_1, back_of_epoch_0, back_of_epoch_1, block_back_of_epoch_0, block_back_of_epoch_1}

-- one key, one fact
of_front : (k : ℕ) (xs : List Fact) (f : Fact) → Contains (take k xs) f → Contains xs f
of_front zero xs f h = absurd (none_in f h)
of_front (suc k) [] f h = h
of_front (suc k) (x ∷ xs) f h = ⊎_elim (λ (e : x ≡ f). subst (λ z. Contains (z ∷ xs) f) (sym e) (here f xs)) (λ q. there x xs f (of_front k xs f q))
    (which x (take k xs) f h)

same_record : (n : ℕ) (log : List Fact) → IsDrillLog n log → (r s : RecordData) → Contains (records log) r → Contains (records log) s → s.epoch ≡ r.epoch
    → s.number ≡ r.number → s ≡ r
same_record n log d r s hr hs e m =
    ⊎_elim
    (λ (a : (i : ℕ) × (1 ≤ i) × (i ≤ n) × (record_of_epoch_0 i ≡ r)). ⊎_elim
    (λ (b : (i : ℕ) × (1 ≤ i) × (i ≤ n) × (record_of_epoch_0 i ≡ s)). sym b.3 ∙ (ap record_of_epoch_0 (ap number_of b.3 ∙ (m ∙ sym (ap number_of a.3))) ∙ a.3))
    (λ (b : (j : ℕ) × (1 ≤ j) × (j ≤ n) × (record_of_epoch_1 n j ≡ s)). absurd
    (let x : 1 ≡ s.epoch = ap epoch_of b.3 in let y : 0 ≡ r.epoch = ap epoch_of a.3 in omega (arith, x, y, e)))
    (d.record_is s hs))
    (λ (a : (j : ℕ) × (1 ≤ j) × (j ≤ n) × (record_of_epoch_1 n j ≡ r)). ⊎_elim
    (λ (b : (i : ℕ) × (1 ≤ i) × (i ≤ n) × (record_of_epoch_0 i ≡ s)). absurd
    (let x : 0 ≡ s.epoch = ap epoch_of b.3 in let y : 1 ≡ r.epoch = ap epoch_of a.3 in omega (arith, x, y, e)))
    (λ (b : (j : ℕ) × (1 ≤ j) × (j ≤ n) × (record_of_epoch_1 n j ≡ s)).
    let x : drill_hi n + b.0 ≡ s.number = ap number_of b.3 in
    let y : drill_hi n + a.0 ≡ r.number = ap number_of a.3 in
    let z : b.0 ≡ a.0 = omega (arith, x, y, m) in
    sym b.3 ∙ (ap (record_of_epoch_1 n) z ∙ a.3))
    (d.record_is s hs))
    (d.record_is r hr)
  where
    number_of : RecordData → ℕ
    number_of r = r.number

    epoch_of : RecordData → ℕ
    epoch_of r = r.epoch

one_key : (n : ℕ) (log : List Fact) → IsDrillLog n log → (f g : Fact) → Contains log f → Contains log g → SameKey f g → f ≡ g
one_key n log d (Record s) (Record r) hf hg k = ap Record (same_record n log d r s ((record_in log r).1 hg) ((record_in log s).1 hf) k.0 k.1)
one_key n log d (Record s) (Cut c) hf hg k = absurd k
one_key n log d (Record s) (Advance a) hf hg k = absurd k
one_key n log d (Cut c) (Record r) hf hg k = absurd k
one_key n log d (Cut b) (Cut c) hf hg k = ap Cut (sym (d.each_cut b ((cut_in log b).1 hf)) ∙ d.each_cut c ((cut_in log c).1 hg))
one_key n log d (Cut b) (Advance a) hf hg k = absurd k
one_key n log d (Advance a) (Record r) hf hg k = absurd k
one_key n log d (Advance a) (Cut c) hf hg k = absurd k
one_key n log d (Advance a) (Advance b) hf hg k = absurd k

block_1 : (i : ℕ) → 1 ≤ i → (if nat_lt 8 i then i - 8 else 0) ≤ i - 1
block_1 i l = grind (arith, nat_tests)

back_2 : (n j : ℕ) → 2 ≤ n → 1 ≤ j → (if j == 1 then n / 2 else drill_hi n + j - 1) < drill_hi n + j
back_2 n j m l = let h = half_at_most n in grind (arith, nat_tests)

block_2 : (n j : ℕ) → 2 ≤ n → 1 ≤ j → (if nat_lt 8 j then drill_hi n + j - 8 else last_of_page (n / 2)
    ((j - 1) % 8)) ≤ (if j == 1 then n / 2 else drill_hi n + j - 1)
block_2 n j m l = let h = half_at_most n in grind (arith, nat_tests)

keeps_epoch_0 : (n i place : ℕ) (log : List Fact) → IsDrillLog n log → 1 ≤ i → i ≤ n → Contains log (Record (record_of_epoch_0 i))
    → KeepsLaws 1 log place (Record (record_of_epoch_0 i))
keeps_epoch_0 n i place log d l u here = record {
  shape = shape 0 i (i - 1) (i % 8) (if nat_lt 8 i then i - 8 else 0) (let m = d.most in omega (arith, u, m)) (omega (arith, l)) (block_1 i l);
  law1 = λ f h. one_key n log d f (Record (record_of_epoch_0 i)) (of_front place log f h) here;
  law2 = ((λ e a b. absurd (omega (arith, a, b))), λ c h e. absurd (let q = opens_epoch_1 n log d c h in omega (arith, q, e)));
  law3 = back_of_epoch_0 n i log d l u;
  law4 = block_back_of_epoch_0 n i log d l u;
  law5 = tt;
}

keeps_epoch_1 : (n j place : ℕ) (log : List Fact) → IsDrillLog n log → 1 ≤ j → j ≤ n → Contains log (Record (record_of_epoch_1 n j))
    → KeepsLaws 1 log place (Record (record_of_epoch_1 n j))
keeps_epoch_1 n j place log d l u here = record {
  shape = shape 1 (drill_hi n + j) (if j == 1 then n / 2 else drill_hi n + j - 1) ((j - 1) % 8)
      (if nat_lt 8 j then drill_hi n + j - 8 else last_of_page (n / 2) ((j - 1) % 8)) (let m = d.most in omega (arith, u, m)) (back_2 n j d.least l)
      (block_2 n j d.least l);
  law1 = λ f h. one_key n log d f (Record (record_of_epoch_1 n j)) (of_front place log f h) here;
  law2 = (
    (λ e a b. (drill_cut n, d.counts_cut, omega (arith, a, b))),
    λ c h e. subst (λ (x : CutData). x.hi < drill_hi n + j) (d.each_counted c h)
        (omega (arith, l)),
  );
  law3 = back_of_epoch_1 n j log d l u;
  law4 = block_back_of_epoch_1 n j log d l u;
  law5 = tt;
}

keeps_cut : (n place : ℕ) (log : List Fact) → IsDrillLog n log → Contains log (Cut (drill_cut n)) → KeepsLaws 1 log place (Cut (drill_cut n))
keeps_cut n place log d here = record {
  shape = let h = half_at_most n in let m = d.most in (let t : cut_fault (drill_cut n) ≡ None = grind (arith, nat_tests) in t);
  law1 = λ f h. one_key n log d f (Cut (drill_cut n)) (of_front place log f h) here;
  law2 = tt;
  law3 = tt;
  law4 = tt;
  law5 = tt;
}

keeps_advance : (n place : ℕ) (log : List Fact) → IsDrillLog n log → Contains log (Advance (drill_advance n))
    → KeepsLaws 1 log place (Advance (drill_advance n))
keeps_advance n place log d here = record {
  shape = let h = half_positive n d.least in let k = half_at_most n in let m = d.most in
      (let t : advance_fault (drill_advance n) ≡ None = grind (arith, nat_tests) in t);
  law1 = λ f h. one_key n log d f (Advance (drill_advance n)) (of_front place log f h) here;
  law2 = tt;
  law3 = tt;
  law4 = tt;
  law5 = (
    (omega arith, omega arith),
    (λ e a b. absurd (omega (arith, a, b))),
    λ c h e past. subst (λ (x : CutData). n / 2 ≤ x.lo) (d.each_counted c h)
        (omega arith),
  );
}

keeps : (n p place : ℕ) (log : List Fact) (f : Fact) → IsDrillLog n log → Contains log f → IsKindAt n p f → KeepsLaws 1 log place f
keeps n p place log f d h (inl a) = subst (KeepsLaws 1 log place) (sym a.2) (keeps_epoch_0 n p place log d a.0 a.1 (subst (Contains log) a.2 h))
keeps n p place log f d h (inr (inl a)) = subst (KeepsLaws 1 log place) (sym a) (keeps_advance n place log d (subst (Contains log) a h))
keeps n p place log f d h (inr (inr (inl a))) = subst (KeepsLaws 1 log place) (sym a) (keeps_cut n place log d (subst (Contains log) a h))
keeps n p place log f d h (inr (inr (inr a))) = subst (KeepsLaws 1 log place) (sym a.3) (keeps_epoch_1 n a.0 place log d a.1 a.2 (subst (Contains log) a.3 h))

-- the fact at an index
among : (xs : List Fact) (k : ℕ) (f : Fact) → slice_get xs k ≡ Some f → Contains xs f
among [] k f e = absurd cc
among (x ∷ xs) zero f e = let q : x ≡ f = cc in subst (λ z. Contains (z ∷ xs) f) (sym q) (here f xs)
among (x ∷ xs) (suc k) f e = there x xs f (among xs k f e)

contents_keep : (n : ℕ) → 2 ≤ n → n ≤ 1048576 → (place : ℕ) (fact : Fact) → slice_get (facts_of_drill n) place ≡ Some fact
    → KeepsLaws 1 (facts_of_drill n) place fact
contents_keep n least most place fact e =
    ⊎_elim
    (λ (l : place < 2 * n + 2).
    let g = get_place (drill_fact n) 1 (2 * n + 2) place l in
    let q : drill_fact n (1 + place) ≡ fact = cc in
    keeps n (1 + place) place (facts_of_drill n) fact (drill_contents n least most) (among (facts_of_drill n) place fact e)
    (subst (IsKindAt n (1 + place)) q (kind_of_place n (1 + place) (omega arith) (omega (arith, l)))))
    (λ (m : 2 * n + 2 ≤ place). absurd (let g = get_past (drill_fact n) 1 (2 * n + 2) place m in cc))
    (let t : (place < 2 * n + 2) ⊎ (2 * n + 2 ≤ place) = grind arith in t)

contents_sound : (n : ℕ) → 2 ≤ n → n ≤ 1048576 → IsSound 1 (facts_of_drill n)
contents_sound n least most = record { readers = (omega arith, omega arith); keeps = λ place fact e. contents_keep n least most place fact e }

pub log_is : (n : ℕ) → 2 ≤ n → n ≤ 1048576 → drill_log n ≡ facts_of_drill n
unfolding drill_log
log_is n least most = let a : nat_le 2 n ≡ true = grind (arith, nat_tests) in let b : nat_le n 1048576 ≡ true = grind (arith, nat_tests) in rw (a, b) refl

pub log_is_empty : (n : ℕ) → (n < 2) ⊎ (1048576 < n) → drill_log n ≡ []
unfolding drill_log
log_is_empty n (inl l) = let a : nat_le 2 n ≡ false = grind (arith, nat_tests) in rw a refl
log_is_empty n (inr l) = let a : nat_le 2 n ≡ true = grind (arith, nat_tests) in let b : nat_le n 1048576 ≡ false = grind (arith, nat_tests) in rw (a, b) refl

pub drill_sound : (n : ℕ) → IsSound 1 (drill_log n)
drill_sound n =
    ⊎_elim
    (λ (no : (n < 2) ⊎ (1048576 < n)). subst (IsSound 1) (sym (log_is_empty n no))
    (record { readers = (omega arith, omega arith); keeps = λ place fact e. absurd cc }))
    (λ (yes : (2 ≤ n) × (n ≤ 1048576)). subst (IsSound 1) (sym (log_is n yes.0 yes.1)) (contents_sound n yes.0 yes.1))
    (let t : ((n < 2) ⊎ (1048576 < n)) ⊎ ((2 ≤ n) × (n ≤ 1048576)) = grind arith in t)

-- what `fact` returns
pub at_place : (n p : ℕ) → 2 ≤ n → n ≤ 1048576 → 1 ≤ p → p ≤ 2 * n + 2 → fact_at (drill_log n) p ≡ Some (drill_fact n p)
at_place n zero least most l u = absurd (omega (arith, l))
at_place n (suc k) least most l u = ap (λ (xs : List Fact). slice_get xs k) (log_is n least most)
    ∙ (get_place (drill_fact n) 1 (2 * n + 2) k (omega (arith, u)) ∙ ap (λ (z : ℕ). Some (drill_fact n z)) (omega arith))

pub at_past : (n p : ℕ) → 2 ≤ n → n ≤ 1048576 → 2 * n + 2 < p → fact_at (drill_log n) p ≡ None
at_past n zero least most u = absurd (omega (arith, u))
at_past n (suc k) least most u = ap (λ (xs : List Fact). slice_get xs k) (log_is n least most) ∙ get_past (drill_fact n) 1 (2 * n + 2) k (omega (arith, u))

pub at_no_size : (n p : ℕ) → (n < 2) ⊎ (1048576 < n) → fact_at (drill_log n) p ≡ None
at_no_size n zero away = refl
at_no_size n (suc k) away = ap (λ (xs : List Fact). slice_get xs k) (log_is_empty n away)

pub at_epoch_0 : (n p : ℕ) → 2 ≤ n → n ≤ 1048576 → 1 ≤ p → p ≤ n → fact_at (drill_log n) p ≡ Some (Record (record_of_epoch_0 p))
at_epoch_0 n p least most l u = at_place n p least most l (omega (arith, u)) ∙ ap (λ (f : Fact). Some f) (fact_of_epoch_0 n p u)

pub at_advance : (n p : ℕ) → 2 ≤ n → n ≤ 1048576 → p ≡ n + 1 → fact_at (drill_log n) p ≡ Some (Advance (drill_advance n))
at_advance n p least most e = at_place n p least most (omega (arith, e)) (omega (arith, e, least)) ∙ ap (λ (f : Fact). Some f)
    (ap (drill_fact n) e ∙ fact_advance n)

pub at_cut : (n p : ℕ) → 2 ≤ n → n ≤ 1048576 → p ≡ n + 2 → fact_at (drill_log n) p ≡ Some (Cut (drill_cut n))
at_cut n p least most e = at_place n p least most (omega (arith, e)) (omega (arith, e, least)) ∙ ap (λ (f : Fact). Some f) (ap (drill_fact n) e ∙ fact_cut n)

pub at_epoch_1 : (n p : ℕ) → 2 ≤ n → n ≤ 1048576 → n + 2 < p → p ≤ 2 * n + 2 → fact_at (drill_log n) p ≡ Some (Record (record_of_epoch_1 n (p - (n + 2))))
at_epoch_1 n p least most l u = at_place n p least most (omega (arith, l)) u ∙ ap (λ (f : Fact). Some f)
    (fact_of_epoch_1 n (p - (n + 2)) p (omega (arith, l)) (omega (arith, l)))

pub at_outside : (n p : ℕ) → 2 ≤ n → n ≤ 1048576 → (p ≡ 0) ⊎ (2 * n + 2 < p) → fact_at (drill_log n) p ≡ None
at_outside n p least most (inl e) = ap (fact_at (drill_log n)) e
at_outside n p least most (inr l) = at_past n p least most l
