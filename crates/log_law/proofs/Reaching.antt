-- The readers' points before each epoch, fact by fact and reader by reader.
use Rattle.std.proofs.Common.{◌≡◌, ◌≢◌, ℕ, ◌+◌, ◌-◌, ◌<◌, ◌≤◌, ◌⊎◌, ◌↔◌, inl, inr, ⊎_elim, List, [], length, get_or, take, min, max, refl, sym, ◌∙◌, subst, arith, rules}
use Rattle.std.specs.List.{Contains}
use Rattle.redo_core.specs.Data.{CutData, AdvanceData}
use Rattle.redo_core.specs.Sets.{advances}
use Rattle.redo_core.specs.Past.{ArePast}
use Rattle.redo_core.specs.declared.facts.Fact.{Fact}
use Rattle.redo_core.specs.declared.facts.Fact.TheVariants.{Advance}
use Rattle.redo_core.proofs.FactParts.{advance_in}
use Rattle.redo_core.proofs.Rising.{front_to, up_to, take_grows}
use Rattle.log_law.specs.Lows.{HasAbove, AreTops, AreLeastPoints, AreSteps, IsStep, HasTopAbove}

-- the readers are past a truncation exactly where its lo is below the least point at its epoch
pub past_low : (roster : ℕ) (log : List Fact) (count : ℕ) (lows : List ℕ) (c : CutData) → AreLeastPoints roster log count lows → c.epoch < count
    → ArePast roster (advances log) c → c.lo < get_or lows c.epoch 0
past_low roster log count lows c a small past =
    (a.each c.epoch c.lo small).1 (λ reader r. let s = past reader r in (s.0, (advance_in log s.0).0 s.1, s.2, s.3, s.4))

pub low_past : (roster : ℕ) (log : List Fact) (count : ℕ) (lows : List ℕ) (c : CutData) → AreLeastPoints roster log count lows → c.epoch < count
    → c.lo < get_or lows c.epoch 0 → ArePast roster (advances log) c
low_past roster log count lows c a small low reader r = let s = (a.each c.epoch c.lo small).0 low reader r in (s.0, (advance_in log s.0).1 s.1, s.2, s.3, s.4)

-- points up to each epoch are the greatest of those of single epochs
pub tops_from : (facts : List Fact) (reader count : ℕ) (steps tops : List ℕ) → AreSteps facts reader count steps → length tops ≡ count
    → ((e n : ℕ) → e < count → (n < get_or tops e 0) ↔ HasTopAbove steps e n) → AreTops facts reader count tops
tops_from facts reader count steps tops s len risen = record {
  len = len;
  each = λ e n l. (
    λ h. let j = (risen e n l).0 h in let a = (s.each j.0 n (omega (arith, j.1, l))).0 j.2 in let q : a.0.epoch + 1 ≡ j.0 = a.2.1 in
        (a.0, a.1, a.2.0, omega (arith, q, j.1), a.2.2),
    λ h. (risen e n l).1 (h.0.epoch + 1, omega (arith, h.3), (s.each (h.0.epoch + 1) n (omega (arith, h.3, l))).1 (h.0, h.1, (h.2, refl, h.4))),
  );
}

-- one reader more
pub lows_one : (facts : List Fact) (count : ℕ) (tops : List ℕ) → AreTops facts 1 count tops → AreLeastPoints 1 facts count tops
lows_one facts count tops t = record {
  len = t.len;
  each = λ e n l. (
    λ h reader r. subst (λ i. HasAbove facts i e n) (let q : 1 ≡ reader = omega (arith, r.0, r.1) in q) ((t.each e n l).0 h),
    λ h. (t.each e n l).1 (h 1 (omega arith, omega arith)),
  );
}

pub lows_more : (roster : ℕ) (facts : List Fact) (count : ℕ) (lows tops new : List ℕ) → AreLeastPoints roster facts count lows
    → AreTops facts (roster + 1) count tops → length new ≡ count → ((e : ℕ) → e < count → get_or new e 0 ≡ min (get_or lows e 0) (get_or tops e 0))
    → AreLeastPoints (roster + 1) facts count new
lows_more roster facts count lows tops new a t len lower = record {
  len = len;
  each = λ e n l.
      let is = lower e l in (
        λ h reader r. ⊎_elim
            (λ (q : reader ≡ roster + 1). subst (λ i. HasAbove facts i e n) (sym q) ((t.each e n l).0 (omega (arith, is, h))))
            (λ (q : reader ≤ roster). (a.each e n l).0 (omega (arith, is, h)) reader (r.0, q))
            (let u : (reader ≡ roster + 1) ⊎ (reader ≤ roster) = (let v = r.1 in grind (arith, v)) in u),
        λ h.
            let x : n < get_or lows e 0 = (a.each e n l).1 (λ reader r. h reader (r.0, omega (arith, r.1))) in
            let y : n < get_or tops e 0 = (t.each e n l).1 (h (roster + 1) (omega arith, omega arith)) in
            omega (arith, is),
      );
}

-- the value at the next index becomes the greatest up to it
pub record Risen (old cur : List ℕ) (i : ℕ) : Type 0 where
  pub done : (e n : ℕ) → e < i → (n < get_or cur e 0) ↔ HasTopAbove old e n
  pub rest : (e : ℕ) → i ≤ e → get_or cur e 0 ≡ get_or old e 0

pub risen_none : (old : List ℕ) → Risen old old 1
risen_none old = search rules

pub rise_step : (old cur new : List ℕ) (i : ℕ) → 1 ≤ i → Risen old cur i → get_or new i 0 ≡ max (get_or cur i 0) (get_or cur (i - 1) 0)
    → ((e : ℕ) → e ≢ i → get_or new e 0 ≡ get_or cur e 0) → Risen old new (i + 1)
rise_step old cur new i some r at others = record {
  done = λ e n l. ⊎_elim
      (λ (q : e < i). let same = others e (omega (arith, q)) in
      (λ h. (r.done e n q).0 (omega (arith, same, h)), λ h. let t : n < get_or cur e 0 = (r.done e n q).1 h in omega (arith, same)))
      (λ (q : e ≡ i). subst (λ k. (n < get_or new k 0) ↔ HasTopAbove old k n) (sym q) (here' n))
      (let t : (e < i) ⊎ (e ≡ i) = (let m = l in grind (arith, m)) in t);
  rest = λ e l. others e (omega (arith, l)) ∙ r.rest e (omega (arith, l));
}
  where
    here' : (n : ℕ) → (n < get_or new i 0) ↔ HasTopAbove old i n
    here' n =
        let own : get_or cur i 0 ≡ get_or old i 0 = r.rest i (omega arith) in (
          λ h. ⊎_elim
              (λ (x : n < get_or cur i 0). (i, omega arith, omega (arith, own)))
              (λ (x : n < get_or cur (i - 1) 0). let j = (r.done (i - 1) n (omega (arith, some))).0 x in (j.0, omega (arith, j.1), j.2))
              (let t : (n < get_or cur i 0) ⊎ (n < get_or cur (i - 1) 0) = grind (arith, at, h) in t),
          λ h. ⊎_elim
              (λ (q : h.0 ≡ i). let t : n < get_or old i 0 = subst (λ k. n < get_or old k 0) q h.2 in omega (arith, at, own))
              (λ (q : h.0 ≤ i - 1). let t : n < get_or cur (i - 1) 0 = (r.done (i - 1) n (omega (arith, some))).1 (h.0, q, h.2) in omega (arith, at))
              (let t : (h.0 ≡ i) ⊎ (h.0 ≤ i - 1) = (let m = h.1 in grind (arith, m, some)) in t),
        )

-- one fact more is noted
pub steps_more : (facts : List Fact) (reader count i : ℕ) (f : Fact) (a : AdvanceData) (cur new : List ℕ) → i < length facts → f ≡ get_or facts i f
    → f ≡ Advance a → AreSteps (take i facts) reader count cur → length new ≡ count
    → ((e n : ℕ) → e < count → (n < get_or new e 0) ↔ ((n < get_or cur e 0) ⊎ IsStep a reader e n)) → AreSteps (take (i + 1) facts) reader count new
steps_more facts reader count i f a cur new l at is s len each = record {
  len = len;
  each = λ e n m. (
    λ h. ⊎_elim
        (λ (x : n < get_or cur e 0). let t = (s.each e n m).0 x in (t.0, take_grows facts i (Advance t.0) t.1, t.2))
        (λ (x : IsStep a reader e n). (a, subst (Contains (take (i + 1) facts)) is (up_to facts i f l at), x))
        ((each e n m).0 h),
    λ h. (each e n m).1 (⊎_elim
        (λ (q : f ≡ Advance h.0). let same : Advance a ≡ Advance h.0 = sym is ∙ q in let e' : a ≡ h.0 = cc in
        inr (subst (λ x. IsStep x reader e n) (sym e') h.2))
        (λ (q : Contains (take i facts) (Advance h.0)). inl ((s.each e n m).1 (h.0, q, h.2)))
        (front_to facts i f (Advance h.0) l at h.1)),
  );
}

pub steps_other : (facts : List Fact) (reader count i : ℕ) (f : Fact) (cur : List ℕ) → i < length facts → f ≡ get_or facts i f
    → ((a : AdvanceData) → f ≡ Advance a → ⊥) → AreSteps (take i facts) reader count cur → AreSteps (take (i + 1) facts) reader count cur
steps_other facts reader count i f cur l at off s = record {
  len = s.len;
  each = λ e n m. (
    λ h. let t = (s.each e n m).0 h in (t.0, take_grows facts i (Advance t.0) t.1, t.2),
    λ h. (s.each e n m).1 (
      h.0,
      ⊎_elim (λ (q : f ≡ Advance h.0). absurd (off h.0 q)) (λ (q : Contains (take i facts) (Advance h.0)). q)
          (front_to facts i f (Advance h.0) l at h.1),
      h.2,
    ),
  );
}

pub no_steps : (reader count : ℕ) (tops : List ℕ) → length tops ≡ count → ((k : ℕ) → get_or tops k 0 ≡ 0) → AreSteps [] reader count tops
no_steps reader count tops len zeros = search rules
