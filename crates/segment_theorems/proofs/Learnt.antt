-- What a state learns, it means.
use Rattle.std.proofs.Common.{◌≡◌, ℕ, ◌<◌, ◌≤◌, ◌⊎◌, ◌↔◌, inl, inr, ⊎_elim, List, [], ◌∷◌, ◌++◌, length, refl, sym, ap, subst, arith, rules}
use Rattle.std.specs.List.{Contains}
use Rattle.redo_core.specs.Data.{RecordData, CutData, AdvanceData}
use Rattle.redo_core.specs.Sets.{SameSet, cuts, advances}
use Rattle.redo_core.specs.Order.{IsGreatest}
use Rattle.redo_core.specs.Roster.{IsReader, point_of}
use Rattle.redo_core.specs.Points.{HasAdvance, IsPoint, RaisesPoints}
use Rattle.redo_core.specs.Position.{Position, IsPosition}
use Rattle.redo_core.specs.declared.facts.Fact.{Fact}
use Rattle.redo_core.specs.declared.facts.Fact.TheVariants.{Record, Cut, Advance}
use Rattle.redo_core.proofs.Members.{none_in, here, which, only}
use Rattle.redo_core.proofs.FactParts.{record_in}
use Rattle.log_theorems.proofs.Log.{log_of_sound}
use Rattle.log_theorems.proofs.Fronts.{front_exists}
use Rattle.redo_core.specs.Book.{BookData, book_of}
use Rattle.segment_theorems.specs.State.{State}
use Rattle.segment_theorems.specs.Means.{Means}
use Rattle.segment_theorems.specs.Promises.{TakesFact}
use Rattle.segment_theorems.specs.Learning.{StoresCut, StoresAdvance, PutsRecord}
use Rattle.segment_theorems.specs.Joining.{JoinsBooks, Joins}
use Rattle.segment_theorems.proofs.Joining.{join_law}
use Rattle.segment_theorems.proofs.Bare.{AreZero, zero_points, epoch_without, bare, bare_means, bare_version, lone_cut_means}
use Rattle.segment_theorems.proofs.Lone.{lone, lone_version, lone_means}
use Rattle.segment_theorems.proofs.OneFact.{part_of, advance_no_record, advance_no_cut, advance_only, advance_there}
use Rattle.segment_theorems.proofs.Booked.{epoch_of}

same_book : (b d : BookData) → b.cuts ≡ d.cuts → b.complete ≡ d.complete → b.points ≡ d.points → b.waits ≡ d.waits → b ≡ d
same_book b d e f g h = search rules

same_state : (s t : State) → s.book ≡ t.book → s.held ≡ t.held → s.base ≡ t.base → s.store ≡ t.store → s ≡ t
same_state s t a b c d = search rules

-- a record

put_joins : {roster : ℕ} (log F : List Fact) (s : State) (ps : List ℕ) (r : RecordData) (held : List RecordData) → AreZero roster ps
    → (a : Means roster log F s) → ((x : RecordData) → Contains held x ↔ (Contains s.held x ⊎ (x ≡ r))) → Joins s (lone ps r) (record s { held = held })
unfolding lone
put_joins {roster} log F s ps r held zero a put =
    let m = a.1 in
    let m = a.1 in record {
      book = record {
        cuts = λ c. (λ h. inl h, λ h. ⊎_elim (λ (x : Contains s.book.cuts c). x) (λ (x : Contains [] c). absurd (none_in c x)) h);
        complete = epoch_of m;
        waits = λ b. (
          λ h. (inl h, ((m.book.waits b).0 h).1),
          λ h. ⊎_elim (λ (x : Contains s.book.waits b). x)
              (λ (x : Contains [] b). absurd (none_in b x)) h.0,
        );
        points = record {
          count = refl;
          each = λ reader r. (
            inr (inl refl),
            λ n h. ⊎_elim (λ (e : n ≡ point_of s.book.points reader). omega arith)
                (λ h2. ⊎_elim (λ (e : n ≡ point_of ps reader). let z : point_of ps reader ≡ 0 = zero reader (subst (λ c. IsReader c reader) m.readers r) in
                omega arith)
                (λ (b : (b : AdvanceData) × (Contains s.book.waits b ⊎ Contains [] b) × (b.epoch ≤ s.book.complete) × (b.reader ≡ reader) × (b.point ≡ n)).
                absurd (⊎_elim (λ (x : Contains s.book.waits b.0). omega (arith, ((m.book.waits b.0).0 x).1, b.2))
                (λ (x : Contains [] b.0). none_in b.0 x) b.1)) h2) h,
          );
        };
      };
      base = (inl refl, omega arith, omega arith);
      of_both = λ t h. ⊎_elim (λ (x : Contains s.held t). inl x) (λ (e : t ≡ r). inr (subst (λ y. Contains (r ∷ []) y) (sym e) (here r []))) ((put t).0 h);
      kept = λ t h mat. inl ((put t).1 (⊎_elim (λ (x : Contains s.held t). inl x)
          (λ (x : Contains (r ∷ []) t). inr (⊎_elim sym (λ (y : Contains [] t). absurd (none_in t y)) (which r [] t x))) h));
      images = λ g. inl (refl, refl);
      newest = λ g. (omega arith, let e = lone_version ps r g in omega arith);
    }

pub takes_record : (old new : State) (r : RecordData) → PutsRecord old r new → TakesFact old (Record r) new
takes_record old new r put roster log F sound inside a =
    let l = log_of_sound roster log sound in
    let one = lone_means log r l ((record_in log r).1 inside) in
    let e : (let v : State = record old { held = new.held } in v) ≡ new = same_state (record old { held = new.held }) new (sym put.book) refl
    (sym put.rest.base) (sym put.rest.store) in
    subst (λ s. Means roster log (F ++ Record r ∷ []) s) e
    (join_law log F (Record r ∷ []) old (lone one.0 r) (record old { held = new.held }) l a one.2 (put_joins log F old one.0 r new.held one.1 a put.held))

-- truncations, points and waiting advances

-- the points of a reader that an old state, another one and the advances of both that wait no longer give
abbrev Known : State → ℕ → List AdvanceData → ℕ → ℕ → ℕ → Type 0
Known s n ws k reader i = (i ≡ point_of s.book.points reader)
    ⊎ ((i ≡ n) ⊎ ((a : AdvanceData) × (Contains s.book.waits a ⊎ Contains ws a) × (a.epoch ≤ k) × (a.reader ≡ reader) × (a.point ≡ i)))

book_joins : (s : State) (other new : BookData) → JoinsBooks s.book other new → Joins s (bare other) (record s { book = new })
unfolding bare
book_joins s other new joins = record {
  book = joins;
  base = (inl refl, omega arith, omega arith);
  of_both = λ t h. inl h;
  kept = λ t h mat. inl (⊎_elim (λ (x : Contains s.held t). x) (λ (x : Contains [] t). absurd (none_in t x)) h);
  images = λ g. inl (refl, refl);
  newest = λ g. (omega arith, let e = bare_version other g in omega arith);
}

-- the points that a state learns where advances that waited take effect
learnt_point : (s : State) (k reader n m : ℕ) → n ≡ 0 → IsGreatest (λ i. (i ≡ point_of s.book.points reader) ⊎ HasAdvance s.book.waits k reader i) m
    → IsGreatest (Known s n [] k reader) m
learnt_point s k reader n m zero g = (
  ⊎_elim (λ (z : m ≡ 0). inl z)
      (λ (h : (m ≡ point_of s.book.points reader) ⊎ HasAdvance s.book.waits k reader m). inr
      (⊎_elim (λ (e : m ≡ point_of s.book.points reader). inl e) (λ (a : HasAdvance s.book.waits k reader m). inr (inr (a.0, inl a.1, a.2, a.3, a.4))) h))
      g.0,
  λ i h. ⊎_elim
      (λ (e : i ≡ point_of s.book.points reader). g.1 i (inl e))
      (λ h2. ⊎_elim
      (λ (z : i ≡ n). omega arith)
      (λ (a : (a : AdvanceData) × (Contains s.book.waits a ⊎ Contains [] a) × (a.epoch ≤ k) × (a.reader ≡ reader) × (a.point ≡ i)).
      g.1 i (inr (a.0, ⊎_elim (λ (x : Contains s.book.waits a.0). x) (λ (x : Contains [] a.0). absurd (none_in a.0 x)) a.1, a.2, a.3, a.4)))
      h2)
      h,
)

pub takes_cut : (old new : State) (c : CutData) → StoresCut old c new → TakesFact old (Cut c) new
takes_cut old new c stores roster log F sound inside a =
    let l = log_of_sound roster log sound in
    let one = lone_cut_means roster log c inside in
    let learns = stores.book in
    let e : (let v : State = record old { book = new.book } in v) ≡ new = same_state (record old { book = new.book }) new refl (sym stores.held)
    (sym stores.rest.base) (sym stores.rest.store) in
    let j = book_joins old (book_of (c ∷ []) one.0 one.1 []) new.book (record {
      cuts = λ d. (
        λ h. ⊎_elim (λ (x : Contains old.book.cuts d). inl x) (λ (x : d ≡ c). inr (subst (λ y. Contains (c ∷ []) y) (sym x) (here c []))) ((learns.cuts d).0 h),
        λ h. (learns.cuts d).1 (⊎_elim (λ (x : Contains old.book.cuts d). inl x)
            (λ (x : Contains (c ∷ []) d). inr (⊎_elim sym (λ (y : Contains [] d). absurd (none_in d y)) (which c [] d x))) h),
      );
      complete = stores.epoch;
      waits = λ w. (
        λ h. let x = (learns.waits w).0 h in (inl x.0, x.1),
        λ h. (learns.waits w).1 (⊎_elim (λ (x : Contains old.book.waits w). x) (λ (x : Contains [] w). absurd (none_in w x)) h.0, h.1),
      );
      points = record {
        count = learns.points.count;
        each = λ reader r. learnt_point old new.book.complete reader (point_of one.1 reader) (point_of new.book.points reader)
            (one.2 reader (subst (λ n. IsReader n reader) a.1.readers r)) (learns.points.each reader r);
      };
    }) in
    subst (λ s. Means roster log (F ++ Cut c ∷ []) s) e
    (join_law log F (Cut c ∷ []) old (bare (book_of (c ∷ []) one.0 one.1 [])) (record old { book = new.book }) l a one.3 j)

-- an advance by itself

own_epoch : {roster : ℕ} (a : AdvanceData) (p : Position) → IsPosition roster (Advance a ∷ []) p → p.epoch ≡ 0
own_epoch a p h = epoch_without p h (λ c x. absurd (advance_no_cut a c x))

no_cuts_here : (a : AdvanceData) → SameSet [] (cuts (Advance a ∷ []))
no_cuts_here a c = (λ h. absurd (none_in c h), λ h. absurd (advance_no_cut a c h))

advance_exists : (roster : ℕ) (a : AdvanceData) → (p : Position) × IsPosition roster (Advance a ∷ []) p
advance_exists roster a = front_exists roster (Advance a ∷ []) (λ r x. absurd (advance_no_record a r x))

-- the points of one effective advance
abbrev ArePointsOf : ℕ → AdvanceData → List ℕ → Type 0
ArePointsOf roster a ps = (reader : ℕ) → IsReader roster reader → IsPoint (a ∷ []) 0 reader (point_of ps reader)

own_advances : (a : AdvanceData) → advances (Advance a ∷ []) ≡ a ∷ []
unfolding advances
own_advances a = refl

-- one of epoch 0 is effective
pub counting_means : (roster : ℕ) (log : List Fact) (a : AdvanceData) → Contains log (Advance a) → a.epoch ≡ 0 → (ps : List ℕ) × ArePointsOf roster a ps
    × Means roster log (Advance a ∷ []) (bare (book_of [] 0 ps []))
counting_means roster log a h z =
    let f = advance_exists roster a in
    let e : f.0.epoch ≡ 0 = own_epoch a f.0 f.1 in (
      f.0.points,
      λ reader r. subst (λ k. IsPoint (a ∷ []) k reader (point_of f.0.points reader)) e
          (subst (λ as'. IsPoint as' f.0.epoch reader (point_of f.0.points reader)) (own_advances a) (f.1.points.each reader r)),
      (
        f.0,
        bare_means log (Advance a ∷ []) f.0 (book_of [] 0 f.0.points []) (part_of log (Advance a) h) f.1 (advance_no_record a) (no_cuts_here a) (sym e) refl
            (λ b. (
              λ x. absurd (none_in b x),
              λ x. let q : a ≡ b = advance_only a b x.0 in let t : f.0.epoch < b.epoch = x.1 in let u : a.epoch ≡ b.epoch = ap
                  (λ y. y.epoch) q in absurd (omega arith),
            )),
      ),
    )

-- one of a later epoch waits
pub waiting_means : (roster : ℕ) (log : List Fact) (a : AdvanceData) → Contains log (Advance a) → 0 < a.epoch
    → (ps : List ℕ) × AreZero roster ps × Means roster log (Advance a ∷ []) (bare (book_of [] 0 ps (a ∷ [])))
waiting_means roster log a h up =
    let f = advance_exists roster a in
    let e : f.0.epoch ≡ 0 = own_epoch a f.0 f.1 in (
      f.0.points,
      zero_points roster (advances (Advance a ∷ [])) f.0.epoch f.0.points f.1.points
          (λ b x le. let q : a ≡ b = advance_only a b x in let u : a.epoch ≡ b.epoch = ap (λ y. y.epoch) q in omega (arith, le)),
      (
        f.0,
        bare_means log (Advance a ∷ []) f.0 (book_of [] 0 f.0.points (a ∷ [])) (part_of log (Advance a) h) f.1 (advance_no_record a) (no_cuts_here a)
            (sym e) refl
            (λ b. (
              λ x. let q : a ≡ b = only a b x in
                  (subst (Contains (advances (Advance a ∷ []))) q (advance_there a), let u : a.epoch ≡ b.epoch = ap (λ y. y.epoch) q in omega arith),
              λ x. let q : a ≡ b = advance_only a b x.0 in subst (λ y. Contains (a ∷ []) y) q (here a []),
            )),
      ),
    )

-- learning an advance

no_late : {roster : ℕ} (log F : List Fact) (s : State) (a : Means roster log F s) → (b : AdvanceData) → Contains s.book.waits b → s.book.complete < b.epoch
no_late log F s a b x = ((a.1.book.waits b).0 x).1

same_cuts_more : (cs : List CutData) (c : CutData) → Contains cs c ↔ (Contains cs c ⊎ Contains [] c)
same_cuts_more cs c = (λ y. inl y, λ y. ⊎_elim (λ (u : Contains cs c). u) (λ (u : Contains [] c). absurd (none_in c u)) y)

-- the reader's point, where an advance of epoch 0 takes effect
first_point : {roster : ℕ} (log F : List Fact) (s : State) (reader n m : ℕ) (a : AdvanceData) → (x : Means roster log F s) → a.epoch ≡ 0
    → IsPoint (a ∷ []) 0 reader n → IsGreatest (λ i. (i ≡ point_of s.book.points reader) ⊎ HasAdvance (a ∷ []) s.book.complete reader i) m
    → IsGreatest (Known s n [] s.book.complete reader) m
first_point log F s reader n m a x z p g =
    let up : n ≤ m = ⊎_elim (λ (e : n ≡ 0). omega arith)
    (λ (v : HasAdvance (a ∷ []) 0 reader n). g.1 n (inr (v.0, v.1, (let t : v.0.epoch ≤ 0 = v.2 in omega arith), v.3, v.4))) p.0 in (
      ⊎_elim (λ (e : m ≡ 0). inl e)
          (λ y. inr (⊎_elim (λ (e : m ≡ point_of s.book.points reader). inl e)
          (λ (v : HasAdvance (a ∷ []) s.book.complete reader m).
          let q : a ≡ v.0 = only a v.0 v.1 in
          let t : m ≤ n = p.1 m (v.0, v.1, (let u : a.epoch ≡ v.0.epoch = ap (λ w. w.epoch) q in omega arith), v.3, v.4) in
          inr (inl (omega arith))) y))
          g.0,
      λ i y. ⊎_elim (λ (e : i ≡ point_of s.book.points reader). g.1 i (inl e)) (λ y2. ⊎_elim (λ (e : i ≡ n). omega arith)
          (λ (b : (b : AdvanceData) × (Contains s.book.waits b ⊎ Contains [] b) × (b.epoch ≤ s.book.complete) × (b.reader ≡ reader) × (b.point ≡ i)).
          absurd (⊎_elim (λ (u : Contains s.book.waits b.0). let v = no_late log F s x b.0 u in let w : b.0.epoch ≤ s.book.complete = b.2 in omega arith)
          (λ (u : Contains [] b.0). none_in b.0 u) b.1)) y2) y,
    )

-- a book with other points or other waiting advances, joined from the old one and one without truncations
joins_book : {roster : ℕ} (log F : List Fact) (s : State) (ns : List ℕ) (vs : List AdvanceData) (ms : List ℕ) (ws : List AdvanceData) → Means roster log F s
    → ((a : AdvanceData) → Contains ws a ↔ ((Contains s.book.waits a ⊎ Contains vs a) × (s.book.complete < a.epoch)))
    → length ms ≡ length s.book.points
    → ((reader : ℕ) → IsReader (length s.book.points) reader → IsGreatest (Known s (point_of ns reader) vs s.book.complete reader) (point_of ms reader))
    → Joins s (bare (book_of [] 0 ns vs)) (record s { book = book_of s.book.cuts s.book.complete ms ws })
joins_book log F s ns vs ms ws x waits count points = search (rules, book_joins, same_cuts_more, epoch_of)

-- it is effective, and is of epoch 0
count_first : {roster : ℕ} (log F : List Fact) (s : State) (ns ms : List ℕ) (a : AdvanceData) → (x : Means roster log F s) → a.epoch ≡ 0
    → ArePointsOf roster a ns → RaisesPoints s.book.complete s.book.points (a ∷ []) ms
    → Joins s (bare (book_of [] 0 ns [])) (record s { book = book_of s.book.cuts s.book.complete ms s.book.waits })
count_first log F s ns ms a x z own g =
    joins_book log F s ns [] ms s.book.waits x
    (λ b. (λ y. (inl y, no_late log F s x b y), λ y. ⊎_elim (λ (u : Contains s.book.waits b). u) (λ (u : Contains [] b). absurd (none_in b u)) y.0))
    g.count
    (λ reader r. first_point log F s reader (point_of ns reader) (point_of ms reader) a x z (own reader (subst (λ n. IsReader n reader) x.1.readers r))
    (g.each reader r))

-- the reader's point, where an advance of a later epoch takes effect
later_point : {roster : ℕ} (log F : List Fact) (s : State) (reader n m : ℕ) (a : AdvanceData) → (x : Means roster log F s) → n ≡ 0
    → IsGreatest (λ i. (i ≡ point_of s.book.points reader) ⊎ HasAdvance (a ∷ []) s.book.complete reader i) m
    → IsGreatest (Known s n (a ∷ []) s.book.complete reader) m
later_point log F s reader n m a x z g = (
  ⊎_elim (λ (e : m ≡ 0). inl e)
      (λ y. inr (⊎_elim (λ (e : m ≡ point_of s.book.points reader). inl e)
      (λ (v : HasAdvance (a ∷ []) s.book.complete reader m). inr (inr (v.0, inr v.1, v.2, v.3, v.4))) y))
      g.0,
  λ i y. ⊎_elim (λ (e : i ≡ point_of s.book.points reader). g.1 i (inl e)) (λ y2. ⊎_elim (λ (e : i ≡ n). omega arith)
      (λ (b : (b : AdvanceData) × (Contains s.book.waits b ⊎ Contains (a ∷ []) b) × (b.epoch ≤ s.book.complete) × (b.reader ≡ reader) × (b.point ≡ i)).
      ⊎_elim (λ (u : Contains s.book.waits b.0). let v = no_late log F s x b.0 u in let w : b.0.epoch ≤ s.book.complete = b.2 in absurd (omega arith))
      (λ (u : Contains (a ∷ []) b.0). g.1 i (inr (b.0, u, b.2, b.3, b.4))) b.1) y2) y,
)

-- it is effective, and is of a later epoch
count_later : {roster : ℕ} (log F : List Fact) (s : State) (ns ms : List ℕ) (a : AdvanceData) → (x : Means roster log F s) → a.epoch ≤ s.book.complete
    → AreZero roster ns → RaisesPoints s.book.complete s.book.points (a ∷ []) ms → Joins s (bare (book_of [] 0 ns (a ∷ [])))
    (record s { book = book_of s.book.cuts s.book.complete ms s.book.waits })
count_later log F s ns ms a x le zero g =
    joins_book log F s ns (a ∷ []) ms s.book.waits x
    (λ b. (
      λ y. (inl y, no_late log F s x b y),
      λ y. ⊎_elim (λ (u : Contains s.book.waits b). u) (λ (u : Contains (a ∷ []) b). let q = only a b u in let v : a.epoch ≡ b.epoch = ap (λ z. z.epoch) q in
          let w : s.book.complete < b.epoch = y.1 in absurd (omega arith)) y.0,
    ))
    g.count
    (λ reader r. later_point log F s reader (point_of ns reader) (point_of ms reader) a x (zero reader (subst (λ n. IsReader n reader) x.1.readers r))
    (g.each reader r))

-- it waits
wait_joins : {roster : ℕ} (log F : List Fact) (s : State) (ns : List ℕ) (a : AdvanceData) (ws : List AdvanceData) → (x : Means roster log F s)
    → s.book.complete < a.epoch → AreZero roster ns → ((b : AdvanceData) → Contains ws b ↔ (Contains s.book.waits b ⊎ (b ≡ a)))
    → Joins s (bare (book_of [] 0 ns (a ∷ []))) (record s { book = book_of s.book.cuts s.book.complete s.book.points ws })
wait_joins log F s ns a ws x lt zero waits' =
    joins_book log F s ns (a ∷ []) s.book.points ws x
    (λ b. (
      λ y. ⊎_elim
          (λ (u : Contains s.book.waits b). (inl u, no_late log F s x b u))
          (λ (u : b ≡ a). (inr (subst (λ z. Contains (a ∷ []) z) (sym u) (here a [])), let v : b.epoch ≡ a.epoch = ap (λ z. z.epoch) u in omega arith))
          ((waits' b).0 y),
      λ y. (waits' b).1 (⊎_elim (λ (u : Contains s.book.waits b). inl u) (λ (u : Contains (a ∷ []) b). inr (sym (only a b u))) y.0),
    ))
    refl
    (λ reader r. (
      inr (inl refl),
      λ i y. ⊎_elim (λ (u : i ≡ point_of s.book.points reader). omega arith)
          (λ y2. ⊎_elim (λ (u : i ≡ point_of ns reader). let z : point_of ns reader ≡ 0 = zero reader (subst (λ n. IsReader n reader) x.1.readers r) in
          omega arith)
          (λ (b : (b : AdvanceData) × (Contains s.book.waits b ⊎ Contains (a ∷ []) b) × (b.epoch ≤ s.book.complete) × (b.reader ≡ reader) × (b.point ≡ i)).
          let w : b.0.epoch ≤ s.book.complete = b.2 in
          absurd (⊎_elim (λ (u : Contains s.book.waits b.0). let v = no_late log F s x b.0 u in omega arith)
          (λ (u : Contains (a ∷ []) b.0). let v : a.epoch ≡ b.0.epoch = ap (λ z. z.epoch) (only a b.0 u) in omega arith) b.1)) y2) y,
    ))

pub takes_advance : (old new : State) (a : AdvanceData) → StoresAdvance old a new → TakesFact old (Advance a) new
takes_advance old new a stores roster log F sound inside x =
    let l = log_of_sound roster log sound in
    let learns = stores.book in
    ⊎_elim
    (λ (late : old.book.complete < a.epoch).
    let w = learns.later late in
    let t : State = record old { book = book_of old.book.cuts old.book.complete old.book.points new.book.waits } in
    let e : t ≡ new = same_state t new (same_book t.book new.book (sym learns.cuts) (sym learns.complete) (sym w.points) refl) (sym stores.held)
    (sym stores.rest.base) (sym stores.rest.store) in
    let one = waiting_means roster log a inside (omega arith) in
    subst (λ s. Means roster log (F ++ Advance a ∷ []) s) e
    (join_law log F (Advance a ∷ []) old (bare (book_of [] 0 one.0 (a ∷ []))) t l x one.2 (wait_joins log F old one.0 a new.book.waits x late one.1 w.waits)))
    (λ (known : a.epoch ≤ old.book.complete).
    let w = learns.known known in
    let t : State = record old { book = book_of old.book.cuts old.book.complete new.book.points old.book.waits } in
    let e : t ≡ new = same_state t new (same_book t.book new.book (sym learns.cuts) (sym learns.complete) refl (sym w.waits)) (sym stores.held)
    (sym stores.rest.base) (sym stores.rest.store) in
    subst (λ s. Means roster log (F ++ Advance a ∷ []) s) e
    (⊎_elim
    (λ (z : a.epoch ≡ 0). let one = counting_means roster log a inside z in join_law log F (Advance a ∷ []) old (bare (book_of [] 0 one.0 [])) t l x one.2
    (count_first log F old one.0 new.book.points a x z one.1 w.points))
    (λ (up : 0 < a.epoch). let one = waiting_means roster log a inside up in join_law log F (Advance a ∷ []) old
    (bare (book_of [] 0 one.0 (a ∷ []))) t l x one.2 (count_later log F old one.0 new.book.points a x known one.1 w.points))
    (let t : (a.epoch ≡ 0) ⊎ (0 < a.epoch) = grind arith in t)))
    (let t : (old.book.complete < a.epoch) ⊎ (a.epoch ≤ old.book.complete) = grind arith in t)
