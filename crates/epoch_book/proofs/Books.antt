-- What a book is, and knows, after a fact.
use Rattle.std.proofs.Common.{◌≡◌, ◌≢◌, ℕ, zero, suc, ◌-◌, ◌<◌, ◌≤◌, ◌⊎◌, inl, inr, ⊎_elim, List, [], ◌∷◌, ◌++◌, length, get_or, replicate, max, ltb, refl, sym, ap, ◌∙◌, subst, arith, None, rules}
use Rattle.std.proofs.lemmas.Grind.{common_steps}
use Rattle.std.specs.List.{Contains, All, filter, insert}
use Rattle.std.specs.List.Sorted.{IsPartitionPoint}
use Rattle.std.proofs.lemmas.List.Elements.{All-contains, All-filter}
use Rattle.std.proofs.lemmas.Bool.Decides.{nat_tests}
use Rattle.std.proofs.lemmas.List.{get_or-replicate, length-replicate}
use Rattle.redo_core.specs.Data.{CutData, AdvanceData}
use Rattle.redo_core.specs.Shape.{cut_fault, advance_fault, max_number}
use Rattle.redo_core.specs.Sets.{cuts, advances}
use Rattle.redo_core.specs.Order.{IsRising, IsGreatest, CutBefore, AdvanceBefore}
use Rattle.redo_core.specs.Roster.{IsRoster, IsReader, point_of}
use Rattle.redo_core.specs.Points.{HasAdvance, ArePoints, RaisesPoints}
use Rattle.redo_core.specs.CompleteEpoch.{HasCutsTo, IsCompleteEpoch}
use Rattle.redo_core.specs.declared.facts.Fact.TheVariants.{Cut, Advance}
use Rattle.epoch_book.specs.Book.{BookData, book_of, roster_of, IsBook}
use Rattle.epoch_book.specs.Knowing.{KnowsFacts, KnowsMore}
use Rattle.epoch_book.specs.Lows.{AreLows}
use Rattle.epoch_book.specs.Learning.{LearnsCut, LearnsAdvance}
use Rattle.redo_core.proofs.Members.{none_in, here, all_members, contains_insert, filtered, passed, only}
use Rattle.epoch_book.proofs.Earlier.{later_test}
use Rattle.redo_core.proofs.Rising.{rising_insert_at, rising_filter}
use Rattle.redo_core.proofs.FactParts.{no_advances}
use Rattle.redo_core.proofs.CompleteEpochs.{has_cuts}
use Rattle.epoch_book.proofs.Facts.{cuts_with_cut, advances_with_cut, cuts_with_advance, advances_with_advance, no_cuts}

more_known : (cs ds : List CutData) (k : ℕ) → ((c : CutData) → Contains cs c → Contains ds c) → HasCutsTo cs k → HasCutsTo ds k
more_known cs ds k part has e l m = let h = has e l m in (h.0, part h.0 h.1, h.2)

-- one truncation more does not lower the complete epoch
pub epoch_grows : (cs ds : List CutData) (k n : ℕ) → ((c : CutData) → Contains cs c → Contains ds c) → IsCompleteEpoch cs k → IsCompleteEpoch ds n → k ≤ n
epoch_grows cs ds k n part a b = b.1 k (more_known cs ds k part (has_cuts cs k a))

-- the points of readers after more advances take effect
pub raised_points : (n k j : ℕ) (as' bs given : List AdvanceData) (old new : List ℕ) → ArePoints n as' k old → RaisesPoints j old given new
    → ((a : AdvanceData) → Contains as' a → a.epoch ≤ k → Contains bs a × (a.epoch ≤ j))
    → ((a : AdvanceData) → Contains given a → Contains bs a)
    → ((a : AdvanceData) → Contains bs a → a.epoch ≤ j → (Contains as' a × (a.epoch ≤ k)) ⊎ Contains given a)
    → ArePoints n bs j new
raised_points n k j as' bs given old new points raises before more cases = record {
  count = raises.count ∙ points.count;
  each = λ reader r.
      let g = raises.each reader (subst (λ c. IsReader c reader) (sym points.count) r) in
      let p = points.each reader r in (
        ⊎_elim
            (λ (z : point_of new reader ≡ 0). inl z)
            (λ s. ⊎_elim
            (λ (q : point_of new reader ≡ point_of old reader). ⊎_elim
            (λ (z : point_of old reader ≡ 0). inl (q ∙ z))
            (λ (h : HasAdvance as' k reader (point_of old reader)). let t = before h.0 h.1 h.2 in inr (h.0, t.0, t.1, h.3, h.4 ∙ sym q))
            p.0)
            (λ (h : HasAdvance given j reader (point_of new reader)). inr (h.0, more h.0 h.1, h.2, h.3, h.4))
            s)
            g.0,
        λ m h. ⊎_elim
            (λ (t : Contains as' h.0 × (h.0.epoch ≤ k)).
            let x : m ≤ point_of old reader = p.1 m (h.0, t.0, t.1, h.3, h.4) in
            let y : point_of old reader ≤ point_of new reader = g.1 (point_of old reader) (inl refl) in
            omega arith)
            (λ (t : Contains given h.0). g.1 m (inr (h.0, t, h.2, h.3, h.4)))
            (cases h.0 h.1 h.2),
      );
}

-- points that no advance raises
pub unraised_points : (k : ℕ) (old : List ℕ) (given : List AdvanceData)
    → ((a : AdvanceData) → Contains given a → a.epoch ≤ k → IsReader (length old) a.reader → a.point ≤ point_of old a.reader) → RaisesPoints k old given old
unraised_points k old given low = search rules

pub new_book : (n : ℕ) (cs lows : List CutData) (ps : List ℕ) (ws : List AdvanceData) → IsRoster n → cs ≡ [] → lows ≡ [] → ps ≡ replicate n 0 → ws ≡ []
    → IsBook (book_of cs 0 ps ws) × AreLows cs 0 lows
new_book n cs lows ps ws roster e f p g = grind (arith, common_steps)

pub new_knows : (n : ℕ) (cs : List CutData) (ps : List ℕ) (ws : List AdvanceData) → cs ≡ [] → ps ≡ replicate n 0 → ws ≡ [] → KnowsFacts [] (book_of cs 0 ps ws)
new_knows n cs ps ws e p f = record {
  same_cuts = λ d. (λ h. absurd (none_in d (subst (λ l. Contains l d) e h)), λ h. absurd (no_cuts d h));
  points = record {
    count = refl;
    each = λ reader r.
        let long : length ps ≡ n = ap length p ∙ length-replicate n 0 in
        let zero' : point_of ps reader ≡ 0 = ap (λ xs. point_of xs reader) p ∙ get_or-replicate n (reader - 1) 0 0 (omega (arith, r.0, r.1, long)) in
        (inl zero', λ m h. absurd (no_advances h.0 h.1));
  };
  waits = λ a. (λ h. absurd (none_in a (subst (λ l. Contains l a) f h)), λ h. absurd (no_advances a h.0));
}

-- a truncation that is stored
pub held_learns : (b : BookData) (c : CutData) → IsBook b → Contains b.cuts c → LearnsCut b c b
held_learns b c book held = search rules

-- a truncation
pub cut_knows : (old : BookData) (c : CutData) (new : BookData) → IsBook old → IsBook new → LearnsCut old c new → KnowsMore old (Cut c) new
cut_knows old c new ob nb learns facts knows = record {
  same_cuts = λ d. (
    λ h. (cuts_with_cut facts c d).1 (⊎_elim (λ (p : Contains old.cuts d). inl ((knows.same_cuts d).0 p)) (λ (q : d ≡ c). inr q) ((learns.cuts d).0 h)),
    λ h. (learns.cuts d).1 (⊎_elim (λ (p : Contains (cuts facts) d). inl ((knows.same_cuts d).1 p)) (λ (q : d ≡ c). inr q) ((cuts_with_cut facts c d).0 h)),
  );
  points = at_new (raised_points (roster_of old) old.complete new.complete (advances facts)
      (advances (facts ++ Cut c ∷ [])) old.waits old.points new.points knows.points learns.points
      (λ a h le. ((advances_with_cut facts c a).1 h, omega (arith, grows)))
      (λ a h. (advances_with_cut facts c a).1 ((knows.waits a).0 h).0)
      (λ a h le. let given : Contains (advances facts) a = (advances_with_cut facts c a).0 h in
      ⊎_elim (λ (l : a.epoch ≤ old.complete). inl (given, l)) (λ (l : old.complete < a.epoch). inr ((knows.waits a).1 (given, l)))
      (let t : (a.epoch ≤ old.complete) ⊎ (old.complete < a.epoch) = grind arith in t)));
  waits = λ a. (
    λ h. let w = (learns.waits a).0 h in ((advances_with_cut facts c a).1 ((knows.waits a).0 w.0).0, w.1),
    λ h. let later : new.complete < a.epoch = h.1 in (learns.waits a).1 ((knows.waits a).1 ((advances_with_cut facts c a).0 h.0, omega (arith, grows)), h.1),
  );
}
  where
    grows : old.complete ≤ new.complete
    grows = epoch_grows old.cuts new.cuts old.complete new.complete (λ d h. (learns.cuts d).1 (inl h)) ob.complete nb.complete

    at_new : ArePoints (roster_of old) (advances (facts ++ Cut c ∷ [])) new.complete new.points
        → ArePoints (roster_of new) (advances (facts ++ Cut c ∷ [])) new.complete new.points
    at_new p = subst (λ n. ArePoints n (advances (facts ++ Cut c ∷ [])) new.complete new.points) (sym p.count) p

pub shaped_advance : (a : AdvanceData) → advance_fault a ≡ None → (a.point ≤ max_number) × IsReader 15 a.reader
shaped_advance a shaped = grind (arith, nat_tests)

-- raised points are points of before or of advances, so they have their shape
pub points_within : (k : ℕ) (old new : List ℕ) (given : List AdvanceData) → RaisesPoints k old given new → All (λ p. p ≤ max_number) old
    → All (λ a. advance_fault a ≡ None) given → All (λ p. p ≤ max_number) new
points_within k old new given raises low shaped i d l =
    let reader = suc i in
    let inside : IsReader (length old) (suc i) = (omega arith, omega (arith, l, raises.count)) in
    let g = raises.each (suc i) inside in
    let at : suc i - 1 ≡ i = omega arith in
    let is : point_of new (suc i) ≡ get_or new i d = ap (λ j. get_or new j 0) at ∙ get_or_any new i 0 d l in
    let low' : point_of old (suc i) ≤ max_number = let t : get_or old i 0 ≤ max_number = low i 0 (omega (arith, l, raises.count)) in
    subst (λ j. get_or old j 0 ≤ max_number) (sym at) t in
    let bound : point_of new (suc i) ≤ max_number = ⊎_elim
    (λ (z : point_of new (suc i) ≡ 0). omega arith)
    (λ s. ⊎_elim
    (λ (q : point_of new (suc i) ≡ point_of old (suc i)). omega arith)
    (λ (h : HasAdvance given k (suc i) (point_of new (suc i))). let t : h.0.point ≤ max_number =
    (shaped_advance h.0 (All-contains (λ a. advance_fault a ≡ None) given h.0 shaped h.1)).0 in let e : h.0.point ≡ point_of new (suc i) = h.4 in
    omega arith)
    s)
    g.0 in
    omega arith
  where
    get_or_any : (xs : List ℕ) (j x y : ℕ) → j < length xs → get_or xs j x ≡ get_or xs j y
    get_or_any [] j x y m = absurd (omega (arith, m))
    get_or_any (z ∷ zs) zero x y m = refl
    get_or_any (z ∷ zs) (suc j) x y m = get_or_any zs j x y (omega (arith, m))

-- a book with a truncation inserted in order
pub cut_learns : (b : BookData) (i : ℕ) (c : CutData) (k : ℕ) (n : List ℕ) (ws : List AdvanceData) → RaisesPoints k b.points b.waits n
    → ws ≡ filter (λ a. ltb k a.epoch) b.waits → LearnsCut b c (book_of (insert b.cuts i c) k n ws)
cut_learns b i c k n ws greatest e = record {
  cuts = λ d. contains_insert b.cuts i c d;
  points = greatest;
  waits = λ a. (
    λ h. let f = filtered (λ x. ltb k x.epoch) b.waits a (subst (λ l. Contains l a) e h) in (f.0, (later_test k a.epoch).0 f.1),
    λ h. subst (λ l. Contains l a) (sym e) (passed (λ x. ltb k x.epoch) b.waits a ((later_test k a.epoch).1 h.1) h.0),
  );
}

pub cuts_rise : (b : BookData) (i : ℕ) (c : CutData) → IsBook b → i ≤ length b.cuts → IsPartitionPoint (λ d. d.epoch < c.epoch)
    (λ d. c.epoch < d.epoch) b.cuts i → IsRising CutBefore (insert b.cuts i c)
cuts_rise b i c book l gap = rising_insert_at CutBefore b.cuts i c l book.cuts_rise gap.0 gap.1

inserted : {X : Type 0} (P : X → Type 0) (xs : List X) (i : ℕ) (x : X) → P x → All P xs → All P (insert xs i x)
inserted P xs i x p all = all_members P (insert xs i x)
    (λ y h. ⊎_elim (λ (q : Contains xs y). All-contains P xs y all q) (λ (e : y ≡ x). subst P (sym e) p) ((contains_insert xs i x y).0 h))

pub epochs_fit : (b : BookData) (i : ℕ) (c : CutData) → IsBook b → c.epoch < 65536 → All (λ d. d.epoch < 65536) (insert b.cuts i c)
epochs_fit b i c book l = inserted (λ d. d.epoch < 65536) b.cuts i c l book.epochs_fit

pub cuts_shaped : (b : BookData) (i : ℕ) (c : CutData) → IsBook b → cut_fault c ≡ None → All (λ d. cut_fault d ≡ None) (insert b.cuts i c)
cuts_shaped b i c book shaped = inserted (λ d. cut_fault d ≡ None) b.cuts i c shaped book.cuts_shaped

-- the truncations known before are known with one more
pub still_known : (b : BookData) (i : ℕ) (c : CutData) → IsBook b → HasCutsTo (insert b.cuts i c) b.complete
still_known b i c book = more_known b.cuts (insert b.cuts i c) b.complete (λ d h. (contains_insert b.cuts i c d).1 (inl h))
    (has_cuts b.cuts b.complete book.complete)

pub cut_book : (b : BookData) (i : ℕ) (c : CutData) (k : ℕ) (n : List ℕ) (ws : List AdvanceData) → IsBook b → i ≤ length b.cuts
    → IsPartitionPoint (λ d. d.epoch < c.epoch) (λ d. c.epoch < d.epoch) b.cuts i → cut_fault c ≡ None → c.epoch < 65536 → IsCompleteEpoch (insert b.cuts i c) k
    → RaisesPoints k b.points b.waits n → ws ≡ filter (λ a. ltb k a.epoch) b.waits → IsBook (book_of (insert b.cuts i c) k n ws)
cut_book b i c k n ws book l gap shaped fits complete greatest e = record {
  cuts_rise = cuts_rise b i c book l gap;
  cuts_shaped = cuts_shaped b i c book shaped;
  epochs_fit = epochs_fit b i c book fits;
  complete = complete;
  roster = subst IsRoster (sym greatest.count) book.roster;
  points_shaped = points_within k b.points n b.waits greatest book.points_shaped book.waits_shaped;
  waits_rise = subst (IsRising AdvanceBefore) (sym e) (rising_filter AdvanceBefore (λ a. ltb k a.epoch) b.waits book.waits_rise);
  waits_shaped = subst (All (λ a. advance_fault a ≡ None)) (sym e) (All-filter (λ a. ltb k a.epoch) (λ a. advance_fault a ≡ None) b.waits book.waits_shaped);
  waits_later = subst (All (λ a. k < a.epoch)) (sym e)
      (all_members (λ a. k < a.epoch) (filter (λ a. ltb k a.epoch) b.waits) (λ a h. (later_test k a.epoch).0 (filtered (λ x. ltb k x.epoch) b.waits a h).1));
  waits_readers = subst (All (λ a. IsReader (length n) a.reader)) (sym e)
      (subst (λ m. All (λ a. IsReader m a.reader) (filter (λ a. ltb k a.epoch) b.waits)) (sym greatest.count)
      (All-filter (λ a. ltb k a.epoch) (λ a. IsReader (length b.points) a.reader) b.waits book.waits_readers));
}

-- the same by what the calls that make it say
pub cut_learns_by : (b : BookData) (i : ℕ) (c : CutData) (k : ℕ) (n : List ℕ) (xs : List CutData) (vs ws : List AdvanceData) → xs ≡ insert b.cuts i c
    → vs ≡ b.waits → RaisesPoints k b.points vs n → ws ≡ filter (λ a. ltb k a.epoch) b.waits → LearnsCut b c (book_of xs k n ws)
cut_learns_by b i c k n xs vs ws is seen greatest e =
    subst (λ l. LearnsCut b c (book_of l k n ws)) (sym is) (cut_learns b i c k n ws (subst (λ l. RaisesPoints k b.points l n) seen greatest) e)

pub cut_book_by : (b : BookData) (i : ℕ) (c : CutData) (k : ℕ) (n : List ℕ) (xs ys : List CutData) (vs ws : List AdvanceData) → xs ≡ insert b.cuts i c → ys ≡ xs
    → vs ≡ b.waits → IsBook b → i ≤ length b.cuts → IsPartitionPoint (λ d. d.epoch < c.epoch) (λ d. c.epoch < d.epoch) b.cuts i → cut_fault c ≡ None
    → c.epoch < 65536 → IsCompleteEpoch ys k → RaisesPoints k b.points vs n → ws ≡ filter (λ a. ltb k a.epoch) b.waits → IsBook (book_of xs k n ws)
cut_book_by b i c k n xs ys vs ws is read seen book l gap shaped fits complete greatest e =
    subst (λ l. IsBook (book_of l k n ws)) (sym is)
    (cut_book b i c k n ws book l gap shaped fits (subst (λ l. IsCompleteEpoch l k) (read ∙ is) complete)
    (subst (λ l. RaisesPoints k b.points l n) seen greatest) e)

-- an advance that waits
pub wait_book : (b : BookData) (i : ℕ) (a : AdvanceData) → IsBook b → i ≤ length b.waits → IsPartitionPoint (λ w. AdvanceBefore w a)
    (λ w. AdvanceBefore a w) b.waits i → advance_fault a ≡ None → b.complete < a.epoch → IsReader (roster_of b) a.reader
    → IsBook (book_of b.cuts b.complete b.points (insert b.waits i a))
wait_book b i a book l gap shaped later reader = search (rules, rising_insert_at, inserted)

pub wait_learns : (b : BookData) (i : ℕ) (a : AdvanceData) → b.complete < a.epoch → LearnsAdvance b a (book_of b.cuts b.complete b.points (insert b.waits i a))
wait_learns b i a later = record {
  cuts = refl;
  complete = refl;
  known = λ l. absurd (omega arith);
  later = λ l. record { points = refl; waits = λ w. contains_insert b.waits i a w };
}

-- the points after one advance takes effect
pub raises_one : (k : ℕ) (old new : List ℕ) (a : AdvanceData) → a.epoch ≤ k → length new ≡ length old
    → point_of new a.reader ≡ max (point_of old a.reader) a.point
    → ((reader : ℕ) → IsReader (length old) reader → reader ≢ a.reader → point_of new reader ≡ point_of old reader)
    → RaisesPoints k old (a ∷ []) new
raises_one k old new a le count raised others = record {
  count = count;
  each = λ reader r. ⊎_elim (λ (e : reader ≡ a.reader). own reader e) (λ (off : reader ≢ a.reader). other reader r off)
      (let t : (reader ≡ a.reader) ⊎ (reader ≢ a.reader) = grind arith in t);
}
  where
    own : (reader : ℕ) → reader ≡ a.reader → IsGreatest (λ n. (n ≡ point_of old reader) ⊎ HasAdvance (a ∷ []) k reader n) (point_of new reader)
    own reader e =
        let up : point_of new reader ≡ max (point_of old reader) a.point = subst (λ i. point_of new i ≡ max (point_of old i) a.point) (sym e) raised in (
          inr (⊎_elim
              (λ (q : point_of new reader ≡ point_of old reader). inl q)
              (λ (q : point_of new reader ≡ a.point). inr (a, here a [], le, sym e, sym q))
              (let t : (point_of new reader ≡ point_of old reader) ⊎ (point_of new reader ≡ a.point) = grind arith in t)),
          λ m h. ⊎_elim
              (λ (q : m ≡ point_of old reader). omega arith)
              (λ (w : HasAdvance (a ∷ []) k reader m). let t : a.point ≡ w.0.point = ap (λ x. x.point) (only a w.0 w.1) in let u : w.0.point ≡ m = w.4 in
              omega arith)
              h,
        )

    other : (reader : ℕ) → IsReader (length old) reader → reader ≢ a.reader → IsGreatest (λ n. (n ≡ point_of old reader) ⊎ HasAdvance (a ∷ []) k reader n)
        (point_of new reader)
    other reader r off =
        let stays = others reader r off in (
          inr (inl stays),
          λ m h. ⊎_elim
              (λ (q : m ≡ point_of old reader). omega (arith, stays))
              (λ (w : HasAdvance (a ∷ []) k reader m). absurd (off (sym (ap (λ x. x.reader) (only a w.0 w.1) ∙ w.3))))
              h,
        )

pub raised_book : (b : BookData) (a : AdvanceData) (n : List ℕ) → IsBook b → advance_fault a ≡ None → RaisesPoints b.complete b.points (a ∷ []) n
    → IsBook (book_of b.cuts b.complete n b.waits)
raised_book b a n book shaped e = record {
  cuts_rise = book.cuts_rise;
  cuts_shaped = book.cuts_shaped;
  epochs_fit = book.epochs_fit;
  complete = book.complete;
  roster = subst IsRoster (sym e.count) book.roster;
  points_shaped = points_within b.complete b.points n (a ∷ []) e book.points_shaped
      (all_members (λ w. advance_fault w ≡ None) (a ∷ []) (λ w h. subst (λ x. advance_fault x ≡ None) (only a w h) shaped));
  waits_rise = book.waits_rise;
  waits_shaped = book.waits_shaped;
  waits_later = book.waits_later;
  waits_readers = subst (λ m. All (λ w. IsReader m w.reader) b.waits) (sym e.count) book.waits_readers;
}

pub advance_knows : (old : BookData) (a : AdvanceData) (new : BookData) → LearnsAdvance old a new → KnowsMore old (Advance a) new
advance_knows old a new learns facts knows = record {
  same_cuts = λ d. (
    λ h. (cuts_with_advance facts a d).1 ((knows.same_cuts d).0 (subst (λ l. Contains l d) learns.cuts h)),
    λ h. subst (λ l. Contains l d) (sym learns.cuts) ((knows.same_cuts d).1 ((cuts_with_advance facts a d).0 h)),
  );
  points = subst (λ k. ArePoints (length new.points) (advances (facts ++ Advance a ∷ [])) k new.points) (sym learns.complete) points_now;
  waits = λ w. (waits_in w, waits_back w);
}
  where
    same : new.complete ≡ old.complete
    same = learns.complete

    cases : (a.epoch ≤ old.complete) ⊎ (old.complete < a.epoch)
    cases = grind arith

    counted : a.epoch ≤ old.complete → ArePoints (roster_of old) (advances (facts ++ Advance a ∷ [])) old.complete new.points
    counted l =
        raised_points (roster_of old) old.complete old.complete (advances facts) (advances (facts ++ Advance a ∷ []))
        (a ∷ []) old.points new.points knows.points (learns.known l).points
        (λ w h le. ((advances_with_advance facts a w).1 (inl h), le))
        (λ w h. (advances_with_advance facts a w).1 (inr (sym (only a w h))))
        (λ w h le. ⊎_elim (λ (p : Contains (advances facts) w). inl (p, le)) (λ (q : w ≡ a). inr (subst (Contains (a ∷ [])) (sym q) (here a [])))
        ((advances_with_advance facts a w).0 h))

    waiting : old.complete < a.epoch → ArePoints (roster_of old) (advances (facts ++ Advance a ∷ [])) old.complete new.points
    waiting l =
        raised_points (roster_of old) old.complete old.complete (advances facts) (advances (facts ++ Advance a ∷ [])) [] old.points new.points knows.points
        (subst (RaisesPoints old.complete old.points []) (sym (learns.later l).points)
        (unraised_points old.complete old.points [] (λ w h le r. absurd (none_in w h))))
        (λ w h le. ((advances_with_advance facts a w).1 (inl h), le))
        (λ w h. absurd (none_in w h))
        (λ w h le. ⊎_elim (λ (p : Contains (advances facts) w). inl (p, le))
        (λ (q : w ≡ a). let t : w.epoch ≡ a.epoch = ap (λ x. x.epoch) q in absurd (omega (arith, le))) ((advances_with_advance facts a w).0 h))

    either : ArePoints (roster_of old) (advances (facts ++ Advance a ∷ [])) old.complete new.points
    either = ⊎_elim counted waiting cases

    points_now : ArePoints (length new.points) (advances (facts ++ Advance a ∷ [])) old.complete new.points
    points_now = subst (λ n. ArePoints n (advances (facts ++ Advance a ∷ [])) old.complete new.points) (sym either.count) either

    waits_in : (w : AdvanceData) → Contains new.waits w → Contains (advances (facts ++ Advance a ∷ [])) w × (new.complete < w.epoch)
    waits_in w h =
        ⊎_elim
        (λ (l : a.epoch ≤ old.complete). from_old w (subst (λ ws. Contains ws w) (learns.known l).waits h))
        (λ (l : old.complete < a.epoch). ⊎_elim
        (λ (p : Contains old.waits w). from_old w p)
        (λ (q : w ≡ a). let t : w.epoch ≡ a.epoch = ap (λ x. x.epoch) q in ((advances_with_advance facts a w).1 (inr q), omega arith))
        (((learns.later l).waits w).0 h))
        cases
      where
        from_old : (w : AdvanceData) → Contains old.waits w → Contains (advances (facts ++ Advance a ∷ [])) w × (new.complete < w.epoch)
        from_old w p = let k = (knows.waits w).0 p in let l : old.complete < w.epoch = k.1 in ((advances_with_advance facts a w).1 (inl k.0), omega arith)

    waits_back : (w : AdvanceData) → Contains (advances (facts ++ Advance a ∷ [])) w × (new.complete < w.epoch) → Contains new.waits w
    waits_back w h =
        let above : new.complete < w.epoch = h.1 in
        ⊎_elim
        (λ (l : a.epoch ≤ old.complete). ⊎_elim
        (λ (p : Contains (advances facts) w). subst (λ ws. Contains ws w) (sym (learns.known l).waits) ((knows.waits w).1 (p, omega arith)))
        (λ (q : w ≡ a). let t : w.epoch ≡ a.epoch = ap (λ x. x.epoch) q in absurd (omega arith))
        ((advances_with_advance facts a w).0 h.0))
        (λ (l : old.complete < a.epoch). ((learns.later l).waits w).1 (⊎_elim
        (λ (p : Contains (advances facts) w). inl ((knows.waits w).1 (p, omega arith)))
        (λ (q : w ≡ a). inr q)
        ((advances_with_advance facts a w).0 h.0)))
        cases
