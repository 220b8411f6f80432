-- What a list of taken facts leaves.
use Rattle.std.proofs.Common.{◌≡◌, ℕ, ◌<◌, ◌≤◌, ◌⊎◌, ◌↔◌, inl, inr, ⊎_elim, List, [], ◌∷◌, ◌++◌, length, refl, sym, ap, ◌∙◌, subst, arith, rules}
use Rattle.std.specs.List.{Contains}
use Rattle.std.proofs.lemmas.List.Elements.{Contains-append_left, Contains-append_right, Contains-append_cases}
use Rattle.redo_core.specs.Data.{RecordData, CutData, AdvanceData}
use Rattle.redo_core.specs.Order.{IsGreatest}
use Rattle.redo_core.specs.CompleteEpoch.{IsCompleteEpoch}
use Rattle.redo_core.specs.Roster.{IsReader, point_of}
use Rattle.redo_core.specs.Points.{HasAdvance}
use Rattle.redo_core.specs.Learning.{Counts, Waits}
use Rattle.redo_core.specs.declared.facts.Fact.{Fact}
use Rattle.redo_core.specs.declared.facts.Fact.TheVariants.{Record, Cut, Advance}
use Rattle.redo_core.proofs.Members.{none_in, here, which, only}
use Rattle.log_theorems.proofs.Deciding.{settled_lt}
use Rattle.segment_theorems.specs.State.{State}
use Rattle.segment_theorems.specs.Known.{IsKnown}
use Rattle.segment_theorems.specs.Learning.{StoresCut, StoresAdvance, PutsRecord}
use Rattle.segment_core.specs.Taking.{Stores}
use Rattle.segment_core.specs.InOrder.{TakesOne, TakesEach}
use Rattle.epoch_book.proofs.Books.{epoch_grows}

-- the complete epoch is that of the truncations, and what waits is of later ones
pub record IsLate (s : State) : Type 0 where
  pub epoch : IsCompleteEpoch s.book.cuts s.book.complete
  pub later : (a : AdvanceData) → Contains s.book.waits a → s.book.complete < a.epoch

-- the advance waits in the state, or is one of the facts
abbrev pub IsToldAdvance : State → List Fact → AdvanceData → Type 0
IsToldAdvance s facts a = Contains s.book.waits a ⊎ Contains facts (Advance a)

-- n is the reader's point, or that of an exported advance of an epoch up to k
abbrev pub ToldPoint : ℕ → State → List Fact → ℕ → ℕ → Type 0
ToldPoint k s facts reader n =
    (n ≡ point_of s.book.points reader) ⊎ ((a : AdvanceData) × IsToldAdvance s facts a × (a.epoch ≤ k) × (a.reader ≡ reader) × (a.point ≡ n))

-- t has the facts with what s had
pub record LeavesAll (s : State) (facts : List Fact) (t : State) : Type 0 where
  pub epoch : IsCompleteEpoch t.book.cuts t.book.complete
  pub cuts : (c : CutData) → Contains t.book.cuts c ↔ (Contains s.book.cuts c ⊎ Contains facts (Cut c))
  pub waits : (a : AdvanceData) → Contains t.book.waits a ↔ (IsToldAdvance s facts a × (t.book.complete < a.epoch))
  pub count : length t.book.points ≡ length s.book.points
  pub points : (reader : ℕ) → IsReader (length s.book.points) reader → IsGreatest (ToldPoint t.book.complete s facts reader) (point_of t.book.points reader)
  pub base : t.base ≡ s.base
  pub store : t.store ≡ s.store
  pub before : (r : RecordData) → Contains s.held r → Contains t.held r
  pub more : (r : RecordData) → Contains t.held r → Contains s.held r ⊎ Contains facts (Record r)

pub leaves_late : (s : State) (facts : List Fact) (t : State) → LeavesAll s facts t → IsLate t
leaves_late s facts t l = record { epoch = l.epoch; later = λ a h. ((l.waits a).0 h).1 }

-- ---- two lists, one after the other
module _ (s u t : State) (F G : List Fact) (a : LeavesAll s F u) (b : LeavesAll u G t) where
  epochs : u.book.complete ≤ t.book.complete
  epochs = epoch_grows u.book.cuts t.book.cuts u.book.complete t.book.complete (λ c h. (b.cuts c).1 (inl h)) a.epoch b.epoch

  -- what waits or is exported after the first list was so before
  told_before : (w : AdvanceData) → IsToldAdvance u G w → IsToldAdvance s (F ++ G) w
  told_before w h =
      ⊎_elim
      (λ (x : Contains u.book.waits w). ⊎_elim (λ (y : Contains s.book.waits w). inl y)
      (λ (y : Contains F (Advance w)). inr (Contains-append_left F G (Advance w) y)) ((a.waits w).0 x).0)
      (λ (x : Contains G (Advance w)). inr (Contains-append_right F G (Advance w) x))
      h

  -- what was exported before waits or is exported after the first list, or was of it and effective
  told_after : (w : AdvanceData) → IsToldAdvance s (F ++ G) w → IsToldAdvance u G w ⊎ (IsToldAdvance s F w × (w.epoch ≤ u.book.complete))
  told_after w h =
      ⊎_elim
      (λ (x : Contains s.book.waits w). first (inl x))
      (λ (x : Contains (F ++ G) (Advance w)). ⊎_elim (λ (y : Contains F (Advance w)). first (inr y)) (λ (y : Contains G (Advance w)). inl (inr y))
      (Contains-append_cases F G (Advance w) x))
      h
    where
      first : IsToldAdvance s F w → IsToldAdvance u G w ⊎ (IsToldAdvance s F w × (w.epoch ≤ u.book.complete))
      first told =
          ⊎_elim
          (λ (late : u.book.complete < w.epoch). inl (inl ((a.waits w).1 (told, late))))
          (λ (early : u.book.complete < w.epoch → ⊥). inr (told, omega (arith, early)))
          (settled_lt u.book.complete w.epoch)

  point_after : (reader : ℕ) → IsReader (length s.book.points) reader → IsGreatest (ToldPoint t.book.complete s (F ++ G) reader) (point_of t.book.points reader)
  point_after reader r = (
    ⊎_elim
        (λ (z : point_of t.book.points reader ≡ 0). inl z)
        (λ (h : ToldPoint t.book.complete u G reader (point_of t.book.points reader)). ⊎_elim of_point of_advance h)
        later.0,
    λ n h. ⊎_elim
        (λ (e : n ≡ point_of s.book.points reader).
        let x : point_of s.book.points reader ≤ point_of u.book.points reader = earlier.1 (point_of s.book.points reader) (inl refl) in
        omega (arith, e, x, rises))
        (λ (w : (w : AdvanceData) × IsToldAdvance s (F ++ G) w × (w.epoch ≤ t.book.complete) × (w.reader ≡ reader) × (w.point ≡ n)).
        ⊎_elim
        (λ (x : IsToldAdvance u G w.0). later.1 n (inr (w.0, x, w.2, w.3, w.4)))
        (λ (x : IsToldAdvance s F w.0 × (w.0.epoch ≤ u.book.complete)).
        let y : n ≤ point_of u.book.points reader = earlier.1 n (inr (w.0, x.0, x.1, w.3, w.4)) in
        omega (arith, y, rises))
        (told_after w.0 w.1))
        h,
  )
    where
      earlier : IsGreatest (ToldPoint u.book.complete s F reader) (point_of u.book.points reader)
      earlier = a.points reader r

      later : IsGreatest (ToldPoint t.book.complete u G reader) (point_of t.book.points reader)
      later = b.points reader (subst (λ n. IsReader n reader) (sym a.count) r)

      rises : point_of u.book.points reader ≤ point_of t.book.points reader
      rises = later.1 (point_of u.book.points reader) (inl refl)

      of_point : point_of t.book.points reader ≡ point_of u.book.points reader
          → (point_of t.book.points reader ≡ 0) ⊎ ToldPoint t.book.complete s (F ++ G) reader (point_of t.book.points reader)
      of_point e =
          ⊎_elim
          (λ (z : point_of u.book.points reader ≡ 0). inl (e ∙ z))
          (λ h. inr (⊎_elim
          (λ (x : point_of u.book.points reader ≡ point_of s.book.points reader). inl (e ∙ x))
          (λ (w : (w : AdvanceData) × IsToldAdvance s F w × (w.epoch ≤ u.book.complete) × (w.reader ≡ reader) × (w.point ≡ point_of u.book.points reader)).
          let le = epochs in
          let v : w.0.epoch ≤ u.book.complete = w.2 in
          inr (
            w.0,
            ⊎_elim (λ (y : Contains s.book.waits w.0). inl y) (λ (y : Contains F (Advance w.0)). inr (Contains-append_left F G (Advance w.0) y)) w.1,
            omega arith,
            w.3,
            w.4 ∙ sym e,
          ))
          h))
          earlier.0

      of_advance : (w : AdvanceData) × IsToldAdvance u G w × (w.epoch ≤ t.book.complete) × (w.reader ≡ reader) × (w.point ≡ point_of t.book.points reader)
          → (point_of t.book.points reader ≡ 0) ⊎ ToldPoint t.book.complete s (F ++ G) reader (point_of t.book.points reader)
      of_advance w = inr (inr (w.0, told_before w.0 w.1, w.2, w.3, w.4))

  pub leaves_both : LeavesAll s (F ++ G) t
  leaves_both = record {
    epoch = b.epoch;
    cuts = λ c. (
      λ h. ⊎_elim
          (λ (x : Contains u.book.cuts c). ⊎_elim (λ (y : Contains s.book.cuts c). inl y) (λ (y : Contains F (Cut c)). inr (Contains-append_left F G (Cut c) y))
          ((a.cuts c).0 x))
          (λ (x : Contains G (Cut c)). inr (Contains-append_right F G (Cut c) x))
          ((b.cuts c).0 h),
      λ h. (b.cuts c).1 (⊎_elim
          (λ (x : Contains s.book.cuts c). inl ((a.cuts c).1 (inl x)))
          (λ (x : Contains (F ++ G) (Cut c)). ⊎_elim (λ (y : Contains F (Cut c)). inl ((a.cuts c).1 (inr y))) (λ (y : Contains G (Cut c)). inr y)
          (Contains-append_cases F G (Cut c) x))
          h),
    );
    waits = λ w. (
      λ h. let x = (b.waits w).0 h in (told_before w x.0, x.1),
      λ h. (b.waits w).1 (
        ⊎_elim
            (λ (x : IsToldAdvance u G w). x)
            (λ (x : IsToldAdvance s F w × (w.epoch ≤ u.book.complete)).
            let le = epochs in
            let y : w.epoch ≤ u.book.complete = x.1 in
            let z : t.book.complete < w.epoch = h.1 in
            absurd (omega arith))
            (told_after w h.0),
        h.1,
      ),
    );
    count = b.count ∙ a.count;
    points = point_after;
    base = b.base ∙ a.base;
    store = b.store ∙ a.store;
    before = λ r h. b.before r (a.before r h);
    more = λ r h. ⊎_elim
        (λ (x : Contains u.held r). ⊎_elim (λ (y : Contains s.held r). inl y) (λ (y : Contains F (Record r)). inr (Contains-append_left F G (Record r) y))
        (a.more r x))
        (λ (x : Contains G (Record r)). inr (Contains-append_right F G (Record r) x))
        (b.more r h);
  }

-- ---- one fact
no_cut_of_record : (r : RecordData) (c : CutData) → Contains (Record r ∷ []) (Cut c) → ⊥
no_cut_of_record r c h = let e : Record r ≡ Cut c = only (Record r) (Cut c) h in cc

no_advance_of_record : (r : RecordData) (a : AdvanceData) → Contains (Record r ∷ []) (Advance a) → ⊥
no_advance_of_record r a h = let e : Record r ≡ Advance a = only (Record r) (Advance a) h in cc

no_advance_of_cut : (c : CutData) (a : AdvanceData) → Contains (Cut c ∷ []) (Advance a) → ⊥
no_advance_of_cut c a h = let e : Cut c ≡ Advance a = only (Cut c) (Advance a) h in cc

no_cut_of_advance : (a : AdvanceData) (c : CutData) → Contains (Advance a ∷ []) (Cut c) → ⊥
no_cut_of_advance a c h = let e : Advance a ≡ Cut c = only (Advance a) (Cut c) h in cc

one_cut : (c d : CutData) → Contains (Cut c ∷ []) (Cut d) → d ≡ c
one_cut c d h = let e : Cut c ≡ Cut d = only (Cut c) (Cut d) h in cc

one_advance : (a b : AdvanceData) → Contains (Advance a ∷ []) (Advance b) → b ≡ a
one_advance a b h = let e : Advance a ≡ Advance b = only (Advance a) (Advance b) h in cc

-- a state that stays has a fact that adds no truncation and no waiting advance, and whose advance raises no point
stays : (s : State) (fact : Fact) → IsLate s
    → ((c : CutData) → Contains (fact ∷ []) (Cut c) → Contains s.book.cuts c)
    → ((a : AdvanceData) → Contains (fact ∷ []) (Advance a) → IsKnown s (Advance a))
    → LeavesAll s (fact ∷ []) s
stays s fact late cut advance = record {
  epoch = late.epoch;
  cuts = λ c. (λ h. inl h, λ h. ⊎_elim (λ (x : Contains s.book.cuts c). x) (cut c) h);
  waits = λ a. (
    λ h. (inl h, late.later a h),
    λ h. ⊎_elim
        (λ (x : Contains s.book.waits a). x)
        (λ (x : Contains (fact ∷ []) (Advance a)). ⊎_elim
        (λ (y : (a.epoch ≤ s.book.complete) × (a.point ≤ point_of s.book.points a.reader)).
        let z : s.book.complete < a.epoch = h.1 in absurd (omega (arith, y.0, z)))
        (λ (y : Contains s.book.waits a). y)
        (advance a x))
        h.0,
  );
  count = refl;
  points = λ reader r. (
    inr (inl refl),
    λ n h. ⊎_elim
        (λ (e : n ≡ point_of s.book.points reader). omega (arith, e))
        (λ (w : (w : AdvanceData) × IsToldAdvance s (fact ∷ []) w × (w.epoch ≤ s.book.complete) × (w.reader ≡ reader) × (w.point ≡ n)).
        let wait : Contains s.book.waits w.0 → n ≤ point_of s.book.points reader =
        λ x. let y : s.book.complete < w.0.epoch = late.later w.0 x in absurd (omega (arith, y, w.2)) in
        ⊎_elim
        wait
        (λ (x : Contains (fact ∷ []) (Advance w.0)). ⊎_elim
        (λ (y : (w.0.epoch ≤ s.book.complete) × (w.0.point ≤ point_of s.book.points w.0.reader)).
        let z : w.0.point ≤ point_of s.book.points reader = subst (λ i. w.0.point ≤ point_of s.book.points i) w.3 y.1 in
        omega (arith, z, w.4))
        wait
        (advance w.0 x))
        w.1)
        h,
  );
  base = refl;
  store = refl;
  before = λ r h. h;
  more = λ r h. inl h;
}

leaves_known : (s : State) (fact : Fact) → IsLate s → IsKnown s fact → LeavesAll s (fact ∷ []) s
leaves_known s (Record r) late known =
    stays s (Record r) late (λ c x. absurd (no_cut_of_record r c x)) (λ a x. absurd (no_advance_of_record r a x))
leaves_known s (Cut c) late known =
    stays s (Cut c) late (λ d x. subst (Contains s.book.cuts) (sym (one_cut c d x)) known) (λ a x. absurd (no_advance_of_cut c a x))
leaves_known s (Advance a) late known =
    stays s (Advance a) late
    (λ c x. absurd (no_cut_of_advance a c x))
    (λ b x. subst (λ y. IsKnown s (Advance y)) (sym (one_advance a b x)) known)

leaves_record : (s t : State) (r : RecordData) → IsLate s → PutsRecord s r t → LeavesAll s (Record r ∷ []) t
leaves_record s t r late puts =
    let same = stays s (Record r) late (λ c x. absurd (no_cut_of_record r c x)) (λ a x. absurd (no_advance_of_record r a x)) in
    let back = sym puts.book in
    record {
      epoch = subst (λ b. IsCompleteEpoch b.cuts b.complete) back late.epoch;
      cuts = subst (λ b. (c : CutData) → Contains b.cuts c ↔ (Contains s.book.cuts c ⊎ Contains (Record r ∷ []) (Cut c))) back same.cuts;
      waits = subst (λ b. (a : AdvanceData) → Contains b.waits a ↔ (IsToldAdvance s (Record r ∷ []) a × (b.complete < a.epoch))) back same.waits;
      count = ap (λ b. length b.points) puts.book;
      points = subst
          (λ b. (reader : ℕ) → IsReader (length s.book.points) reader
          → IsGreatest (ToldPoint b.complete s (Record r ∷ []) reader) (point_of b.points reader))
          back same.points;
      base = puts.rest.base;
      store = puts.rest.store;
      before = λ x h. (puts.held x).1 (inl h);
      more = λ x h. ⊎_elim
          (λ (y : Contains s.held x). inl y)
          (λ (e : x ≡ r). inr (subst (λ y. Contains (Record r ∷ []) (Record y)) (sym e) (here (Record r) [])))
          ((puts.held x).0 h);
    }

leaves_cut : (s t : State) (c : CutData) → StoresCut s c t → LeavesAll s (Cut c ∷ []) t
leaves_cut s t c learns = record {
  epoch = learns.epoch;
  cuts = λ d. (
    λ h. ⊎_elim
        (λ (x : Contains s.book.cuts d). inl x)
        (λ (e : d ≡ c). inr (subst (λ y. Contains (Cut c ∷ []) (Cut y)) (sym e) (here (Cut c) [])))
        ((learns.book.cuts d).0 h),
    λ h. (learns.book.cuts d).1 (⊎_elim (λ (x : Contains s.book.cuts d). inl x) (λ (x : Contains (Cut c ∷ []) (Cut d)). inr (one_cut c d x)) h),
  );
  waits = λ a. (
    λ h. let x = (learns.book.waits a).0 h in (inl x.0, x.1),
    λ h. (learns.book.waits a).1 (
      ⊎_elim (λ (x : Contains s.book.waits a). x) (λ (x : Contains (Cut c ∷ []) (Advance a)). absurd (no_advance_of_cut c a x)) h.0,
      h.1,
    ),
  );
  count = learns.book.points.count;
  points = λ reader r.
      let g = learns.book.points.each reader r in (
        ⊎_elim
            (λ (z : point_of t.book.points reader ≡ 0). inl z)
            (λ h. inr (⊎_elim
            (λ (e : point_of t.book.points reader ≡ point_of s.book.points reader). inl e)
            (λ (w : HasAdvance s.book.waits t.book.complete reader (point_of t.book.points reader)). inr (w.0, inl w.1, w.2, w.3, w.4))
            h))
            g.0,
        λ n h. g.1 n (⊎_elim
            (λ (e : n ≡ point_of s.book.points reader). inl e)
            (λ (w : (w : AdvanceData) × IsToldAdvance s (Cut c ∷ []) w × (w.epoch ≤ t.book.complete) × (w.reader ≡ reader) × (w.point ≡ n)).
            inr (
              w.0,
              ⊎_elim (λ (x : Contains s.book.waits w.0). x) (λ (x : Contains (Cut c ∷ []) (Advance w.0)). absurd (no_advance_of_cut c w.0 x)) w.1,
              w.2,
              w.3,
              w.4,
            ))
            h),
      );
  base = learns.rest.base;
  store = learns.rest.store;
  before = λ r h. subst (λ hs. Contains hs r) (sym learns.held) h;
  more = λ r h. inl (subst (λ hs. Contains hs r) learns.held h);
}

-- what is effective or waits, in the old complete epoch, which an advance leaves
record LeavesAdvance (s : State) (a : AdvanceData) (t : State) : Type 0 where
  waits : (b : AdvanceData) → Contains t.book.waits b ↔ (IsToldAdvance s (Advance a ∷ []) b × (s.book.complete < b.epoch))
  count : length t.book.points ≡ length s.book.points
  points : (reader : ℕ) → IsReader (length s.book.points) reader
      → IsGreatest (ToldPoint s.book.complete s (Advance a ∷ []) reader) (point_of t.book.points reader)

counted : (s t : State) (a : AdvanceData) → IsLate s → a.epoch ≤ s.book.complete → Counts s.book a t.book → LeavesAdvance s a t
counted s t a late le counts = record {
  waits = λ b. (
    λ h. let x = subst (λ ws. Contains ws b) counts.waits h in (inl x, late.later b x),
    λ h. subst (λ ws. Contains ws b) (sym counts.waits) (⊎_elim
        (λ (x : Contains s.book.waits b). x)
        (λ (x : Contains (Advance a ∷ []) (Advance b)).
        let z : s.book.complete < a.epoch = subst (λ v. s.book.complete < v.epoch) (one_advance a b x) h.1 in absurd (omega (arith, le, z)))
        h.0),
  );
  count = counts.points.count;
  points = λ reader r.
      let g = counts.points.each reader r in (
        ⊎_elim
            (λ (z : point_of t.book.points reader ≡ 0). inl z)
            (λ h. inr (⊎_elim
            (λ (e : point_of t.book.points reader ≡ point_of s.book.points reader). inl e)
            (λ (w : HasAdvance (a ∷ []) s.book.complete reader (point_of t.book.points reader)). inr (w.0, inr (as_fact w.0 w.1), w.2, w.3, w.4))
            h))
            g.0,
        λ n h. ⊎_elim
            (λ (e : n ≡ point_of s.book.points reader). g.1 n (inl e))
            (λ (w : (w : AdvanceData) × IsToldAdvance s (Advance a ∷ []) w × (w.epoch ≤ s.book.complete) × (w.reader ≡ reader) × (w.point ≡ n)).
            ⊎_elim
            (λ (x : Contains s.book.waits w.0). let y : s.book.complete < w.0.epoch = late.later w.0 x in absurd (omega (arith, y, w.2)))
            (λ (x : Contains (Advance a ∷ []) (Advance w.0)).
            g.1 n (inr (w.0, subst (λ v. Contains (a ∷ []) v) (sym (one_advance a w.0 x)) (here a []), w.2, w.3, w.4)))
            w.1)
            h,
      );
}
  where
    as_fact : (w : AdvanceData) → Contains (a ∷ []) w → Contains (Advance a ∷ []) (Advance w)
    as_fact w h = ⊎_elim (λ (e : a ≡ w). subst (λ v. Contains (Advance a ∷ []) (Advance v)) e (here (Advance a) []))
        (λ (x : Contains [] w). absurd (none_in w x)) (which a [] w h)

waiting : (s t : State) (a : AdvanceData) → IsLate s → s.book.complete < a.epoch → Waits s.book a t.book → LeavesAdvance s a t
waiting s t a late lt waits = record {
  waits = λ b. (
    λ h. ⊎_elim
        (λ (x : Contains s.book.waits b). (inl x, late.later b x))
        (λ (e : b ≡ a). (
          inr (subst (λ v. Contains (Advance a ∷ []) (Advance v)) (sym e) (here (Advance a) [])),
          subst (λ v. s.book.complete < v.epoch) (sym e) lt,
        ))
        ((waits.waits b).0 h),
    λ h. (waits.waits b).1 (⊎_elim (λ (x : Contains s.book.waits b). inl x) (λ (x : Contains (Advance a ∷ []) (Advance b)). inr (one_advance a b x)) h.0),
  );
  count = ap length waits.points;
  points = subst (λ ps. (reader : ℕ) → IsReader (length s.book.points) reader
      → IsGreatest (ToldPoint s.book.complete s (Advance a ∷ []) reader) (point_of ps reader)) (sym waits.points) (λ reader r. (
        inr (inl refl),
        λ n h. ⊎_elim
            (λ (e : n ≡ point_of s.book.points reader). omega (arith, e))
            (λ (w : (w : AdvanceData) × IsToldAdvance s (Advance a ∷ []) w × (w.epoch ≤ s.book.complete) × (w.reader ≡ reader) × (w.point ≡ n)).
            absurd (⊎_elim
            (λ (x : Contains s.book.waits w.0). let y : s.book.complete < w.0.epoch = late.later w.0 x in omega (arith, y, w.2))
            (λ (x : Contains (Advance a ∷ []) (Advance w.0)).
            let y : s.book.complete < w.0.epoch = subst (λ v. s.book.complete < v.epoch) (sym (one_advance a w.0 x)) lt in omega (arith, y, w.2))
            w.1))
            h,
      ));
}

leaves_advance : (s t : State) (a : AdvanceData) → IsLate s → StoresAdvance s a t → LeavesAll s (Advance a ∷ []) t
leaves_advance s t a late learns =
    let back = sym learns.book.complete in
    let left : LeavesAdvance s a t = ⊎_elim
    (λ (lt : s.book.complete < a.epoch). waiting s t a late lt (learns.book.later lt))
    (λ (no : s.book.complete < a.epoch → ⊥). let le : a.epoch ≤ s.book.complete = omega (arith, no) in counted s t a late le (learns.book.known le))
    (settled_lt s.book.complete a.epoch) in
    record {
      epoch = subst (λ cs. IsCompleteEpoch cs t.book.complete) (sym learns.book.cuts) (subst (IsCompleteEpoch s.book.cuts) back late.epoch);
      cuts = λ c. (
        λ h. inl (subst (λ cs. Contains cs c) learns.book.cuts h),
        λ h. subst (λ cs. Contains cs c) (sym learns.book.cuts) (⊎_elim
            (λ (x : Contains s.book.cuts c). x)
            (λ (x : Contains (Advance a ∷ []) (Cut c)). absurd (no_cut_of_advance a c x))
            h),
      );
      waits = subst (λ k. (b : AdvanceData) → Contains t.book.waits b ↔ (IsToldAdvance s (Advance a ∷ []) b × (k < b.epoch))) back left.waits;
      count = left.count;
      points = subst
          (λ k. (reader : ℕ) → IsReader (length s.book.points) reader → IsGreatest (ToldPoint k s (Advance a ∷ []) reader) (point_of t.book.points reader))
          back left.points;
      base = learns.rest.base;
      store = learns.rest.store;
      before = λ r h. subst (λ hs. Contains hs r) (sym learns.held) h;
      more = λ r h. inl (subst (λ hs. Contains hs r) learns.held h);
    }

leaves_stored : (s t : State) (fact : Fact) → IsLate s → Stores s fact t → LeavesAll s (fact ∷ []) t
leaves_stored s t (Record r) late puts = leaves_record s t r late puts
leaves_stored s t (Cut c) late learns = leaves_cut s t c learns
leaves_stored s t (Advance a) late learns = leaves_advance s t a late learns

pub leaves_one : (s : State) (fact : Fact) (t : State) → IsLate s → TakesOne s fact t → LeavesAll s (fact ∷ []) t
leaves_one s fact t late takes = search (rules, leaves_known, leaves_stored)

-- ---- all of them
leaves_none : (s : State) → IsLate s → LeavesAll s [] s
leaves_none s late = record {
  epoch = late.epoch;
  cuts = λ c. (λ h. inl h, λ h. ⊎_elim (λ (x : Contains s.book.cuts c). x) (λ (x : Contains [] (Cut c)). absurd (none_in (Cut c) x)) h);
  waits = λ a. (
    λ h. (inl h, late.later a h),
    λ h. ⊎_elim (λ (x : Contains s.book.waits a). x)
        (λ (x : Contains [] (Advance a)). absurd (none_in (Advance a) x)) h.0,
  );
  count = refl;
  points = λ reader r. (
    inr (inl refl),
    λ n h. ⊎_elim
        (λ (e : n ≡ point_of s.book.points reader). omega (arith, e))
        (λ (w : (w : AdvanceData) × IsToldAdvance s [] w × (w.epoch ≤ s.book.complete) × (w.reader ≡ reader) × (w.point ≡ n)).
        absurd (⊎_elim (λ (x : Contains s.book.waits w.0). let y : s.book.complete < w.0.epoch = late.later w.0 x in omega (arith, y, w.2))
        (λ (x : Contains [] (Advance w.0)). none_in (Advance w.0) x) w.1))
        h,
  );
  base = refl;
  store = refl;
  before = λ r h. h;
  more = λ r h. inl h;
}

pub leaves_all : (s : State) (facts : List Fact) (t : State) → IsLate s → TakesEach s facts t → LeavesAll s facts t
leaves_all s [] t late takes = subst (λ x. LeavesAll s [] x) (sym takes) (leaves_none s late)
leaves_all s (fact ∷ facts) t late takes =
    let one = leaves_one s fact takes.0 late takes.1 in
    leaves_both s takes.0 t (fact ∷ []) facts one (leaves_all takes.0 facts t (leaves_late s (fact ∷ []) takes.0 one) takes.2)
