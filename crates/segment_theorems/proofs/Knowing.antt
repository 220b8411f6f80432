-- Facts that a state knows change nothing, and no others do.
use Rattle.std.proofs.Common.{◌≡◌, ◌≢◌, ℕ, ◌<◌, ◌≤◌, ◌⊎◌, inl, inr, ⊎_elim, List, [], ◌∷◌, ◌++◌, refl, sym, ap, ◌∙◌, subst, arith, rules}
use Rattle.std.specs.List.{Contains}
use Rattle.redo_core.specs.Data.{RecordData, CutData, AdvanceData}
use Rattle.redo_core.specs.Sets.{IsPart, records, cuts, advances}
use Rattle.redo_core.specs.Standing.{IsAlive, IsDead}
use Rattle.redo_core.specs.Roster.{IsReader, point_of}
use Rattle.redo_core.specs.Points.{HasAdvance, IsPoint}
use Rattle.redo_core.specs.Position.{Position}
use Rattle.redo_core.specs.Sound.{IsSound}
use Rattle.redo_core.specs.Past.{IsPast, IsKnownPast, OthersPast, CutsBelow}
use Rattle.redo_core.specs.declared.facts.Fact.{Fact}
use Rattle.redo_core.specs.declared.facts.Fact.TheVariants.{Record, Cut, Advance}
use Rattle.redo_core.proofs.Numbers.{greatest_unique}
use Rattle.log_theorems.proofs.Deciding.{settled_lt}
use Rattle.redo_core.proofs.FactParts.{record_in, cut_in, advance_in, part_records, part_cuts, part_advances}
use Rattle.redo_core.proofs.CompleteEpochs.{has_cuts}
use Rattle.log_theorems.proofs.Log.{IsLog, log_of_sound, alive_within}
use Rattle.log_theorems.proofs.Views.{alive_up, knows_cuts, point_le, min_at, min_spared, reader_past}
use Rattle.log_theorems.proofs.Fronts.{settled_alive}
use Rattle.log_theorems.proofs.Alike.{Alike, meaning_alike, alike_by_meaning, front_alike, page_alike, linked_alike, has_below}
use Rattle.log_theorems.proofs.Union.{left, right, both, cut_cases, record_cases, advance_cases, advance_le, point_pair}
use Rattle.log_theorems.proofs.Meanings.{meaning_at}
use Rattle.redo_core.specs.Book.{roster_of}
use Rattle.segment_theorems.specs.State.{State, min_of}
use Rattle.segment_theorems.specs.Means.{MeansAt, Means, Matters, IsInImage}
use Rattle.segment_theorems.specs.HasMeaning.{IsStable}
use Rattle.segment_theorems.specs.Promises.{TakesFact, LeavesMeaning, ChangesMeaning}
use Rattle.segment_theorems.specs.Known.{IsKnown, Conflicts}
use Rattle.segment_theorems.proofs.Booked.{points_as, waits_as, book_at}
use Rattle.segment_theorems.proofs.Reading.{alive_in_facts}
use Rattle.segment_theorems.proofs.OneFact.{part_of, record_no_cut, record_no_advance, record_only, record_there, cut_no_record, cut_no_advance, cut_only, cut_there, advance_no_record, advance_no_cut, advance_only, advance_there}
use Rattle.segment_theorems.proofs.Same.{same_min}
use Rattle.segment_theorems.proofs.Own.{settled_low, base_settled}

-- facts that are alike mean one state
pub means_alike : {roster : ℕ} (log F G : List Fact) (p : Position) (s : State) → Alike roster F G p.epoch → IsPart G log → MeansAt roster log F p s
    → MeansAt roster log G p s
means_alike log F G p s a q m =
    let front = front_alike F G p a m.position in
    let back : (r : RecordData) → Matters (cuts G) p.epoch r → Matters (cuts F) p.epoch r = λ r mat. ⊎_elim (λ (w : p.epoch < r.epoch). inl w)
    (λ (v : IsAlive (cuts G) p.epoch r.epoch r.number). inr (alive_within (cuts F) (cuts G) (λ c h. (a.cuts c).0 h) p.epoch r.epoch r.number v)) mat in
    record {
      part = q;
      position = front;
      book = book_at G p s.book front (λ c. (λ h. (a.cuts c).0 ((m.book.same_cuts c).0 h), λ h. (m.book.same_cuts c).1 ((a.cuts c).1 h))) m.epoch (points_as m)
          (λ w. (λ h. let x = (waits_as m w).0 h in ((a.waits w x.1).0 x.0, x.1), λ h. (waits_as m w).1 ((a.waits w h.1).1 h.0, h.1)));
      epoch = m.epoch;
      readers = m.readers;
      base = (linked_alike F G p.epoch a s.base m.base.0, m.base.1);
      of_log = m.of_log;
      of_facts = λ r h mat. (a.records r (back r mat)).0 (m.of_facts r h (back r mat));
      kept = λ r h mat. m.kept r ((a.records r (back r mat)).1 h) (back r mat);
      versions = m.versions;
      images = λ g. page_alike F G p.epoch a g _ _ (m.images g);
    }

-- facts with one more that brings no new truncation, no new record that matters, no new waiting advance and no greater point
alike_with : {roster : ℕ} (F : List Fact) (k : ℕ) (fact : Fact)
    → ((c : CutData) → Contains (cuts (fact ∷ [])) c → Contains (cuts F) c)
    → ((r : RecordData) → Contains (records (fact ∷ [])) r → Matters (cuts F) k r → Contains (records F) r)
    → ((a : AdvanceData) → Contains (advances (fact ∷ [])) a → k < a.epoch → Contains (advances F) a)
    → ((a : AdvanceData) (m : ℕ) → Contains (advances (fact ∷ [])) a → a.epoch ≤ k → IsReader roster a.reader → IsPoint (advances F) k a.reader m → a.point ≤ m)
    → Alike roster F (F ++ fact ∷ []) k
alike_with {roster} F k fact no_cut no_record no_wait no_point =
    let up = left F (fact ∷ []) in
    record {
      cuts = λ c. (λ h. part_cuts F (F ++ fact ∷ []) up c h, λ h. ⊎_elim (λ (x : Contains (cuts F) c). x) (no_cut c) (cut_cases F (fact ∷ []) c h));
      records = λ r mat. (
        λ h. part_records F (F ++ fact ∷ []) up r h,
        λ h. ⊎_elim (λ (x : Contains (records F) r). x)
            (λ (x : Contains (records (fact ∷ [])) r). no_record r x mat) (record_cases F (fact ∷ []) r h),
      );
      waits = λ a lt. (
        λ h. part_advances F (F ++ fact ∷ []) up a h,
        λ h. ⊎_elim (λ (x : Contains (advances F) a). x)
            (λ (x : Contains (advances (fact ∷ [])) a). no_wait a x lt) (advance_cases F (fact ∷ []) a h),
      );
      points = λ reader i r. point_pair (advances F) (advances (F ++ fact ∷ [])) k reader (λ m n gm gn.
          let x : m ≤ n = point_le F (F ++ fact ∷ []) up k k (omega arith) reader m n gm gn in
          let y : n ≤ m = ⊎_elim (λ (e : n ≡ 0). omega arith)
          (λ (s : HasAdvance (advances (F ++ fact ∷ [])) k reader n).
          let e : s.0.point ≡ n = s.4 in
          let t : s.0.point ≤ m = ⊎_elim (λ (v : Contains (advances F) s.0). advance_le (advances F) k reader m gm s.0 v s.2 s.3)
          (λ (v : Contains (advances (fact ∷ [])) s.0). no_point s.0 m v s.2 (subst (IsReader roster) (sym s.3) r)
          (subst (λ j. IsPoint (advances F) k j m) (sym s.3) gm)) (advance_cases F (fact ∷ []) s.0 s.1) in
          omega arith)
          gn.0 in
          omega arith) i;
    }

-- a record that matters and that the state knows is among the facts
known_record : {roster : ℕ} (log F : List Fact) (p : Position) (s : State) (r : RecordData) → IsLog roster log → Contains (records log) r
    → MeansAt roster log F p s → IsKnown s (Record r) → Matters (cuts F) p.epoch r → Contains (records F) r
known_record log F p s r l h m known mat =
    ⊎_elim
    (λ (dead : IsDead s.book.cuts s.book.complete r.epoch r.number).
    ⊎_elim
    (λ (w : p.epoch < r.epoch). absurd (omega (arith, m.epoch, dead.0, w)))
    (λ (v : IsAlive (cuts F) p.epoch r.epoch r.number). absurd (dead.1 ((alive_in_facts log F p s m r.epoch r.number).1 v)))
    mat)
    (λ (rest : Contains s.held r ⊎ (IsAlive s.book.cuts s.book.complete r.epoch r.number × IsStable s r.number)).
    ⊎_elim
    (λ (held : Contains s.held r). m.of_facts r held mat)
    (λ (low : IsAlive s.book.cuts s.book.complete r.epoch r.number × IsStable s r.number).
    has_below log F p l m.part m.position r h
    (alive_up log F l m.part p.epoch r.epoch r.number (has_cuts (cuts F) p.epoch m.position.epoch) ((alive_in_facts log F p s m r.epoch r.number).0 low.0))
    (settled_low log F p s r.number l m low.1))
    rest)
    known

known_point : {roster : ℕ} (log F : List Fact) (p : Position) (s : State) (a : AdvanceData) → MeansAt roster log F p s → IsKnown s (Advance a) → (m : ℕ)
    → a.epoch ≤ p.epoch → IsReader roster a.reader → IsPoint (advances F) p.epoch a.reader m → a.point ≤ m
known_point log F p s a means known m le r g =
    let same : m ≡ point_of p.points a.reader = greatest_unique (HasAdvance (advances F) p.epoch a.reader) (HasAdvance (advances F) p.epoch a.reader)
    (λ i. (λ u. u, λ u. u)) m (point_of p.points a.reader) g (means.position.points.each a.reader r) in
    let e : point_of s.book.points a.reader ≡ point_of p.points a.reader = ap (λ ps. point_of ps a.reader) (points_as means) in
    ⊎_elim
    (λ (low : (a.epoch ≤ s.book.complete) × (a.point ≤ point_of s.book.points a.reader)). let t : a.point ≤ point_of s.book.points a.reader = low.1 in
    omega arith)
    (λ (w : Contains s.book.waits a). let t : p.epoch < a.epoch = ((waits_as means a).0 w).1 in absurd (omega arith))
    known

known_wait : {roster : ℕ} (log F : List Fact) (p : Position) (s : State) (a : AdvanceData) → MeansAt roster log F p s → IsKnown s (Advance a)
    → p.epoch < a.epoch → Contains (advances F) a
known_wait log F p s a m known lt =
    ⊎_elim
    (λ (low : (a.epoch ≤ s.book.complete) × (a.point ≤ point_of s.book.points a.reader)). absurd (omega (arith, m.epoch, low.0, lt)))
    (λ (w : Contains s.book.waits a). ((waits_as m a).0 w).0)
    known

pub known_alike : {roster : ℕ} (log F : List Fact) (p : Position) (s : State) (fact : Fact) → IsLog roster log → Contains log fact → MeansAt roster log F p s
    → IsKnown s fact → Alike roster F (F ++ fact ∷ []) p.epoch
known_alike log F p s (Record r) l h m known =
    alike_with F p.epoch (Record r)
    (λ c x. absurd (record_no_cut r c x))
    (λ t x mat. let e : r ≡ t = record_only r t x in subst (Contains (records F)) e
    (known_record log F p s r l ((record_in log r).1 h) m known (subst (Matters (cuts F) p.epoch) (sym e) mat)))
    (λ a x lt. absurd (record_no_advance r a x))
    (λ a n x le v g. absurd (record_no_advance r a x))
known_alike log F p s (Cut c) l h m known =
    alike_with F p.epoch (Cut c)
    (λ d x. let e : c ≡ d = cut_only c d x in subst (Contains (cuts F)) e ((m.book.same_cuts c).0 known))
    (λ t x mat. absurd (cut_no_record c t x))
    (λ a x lt. absurd (cut_no_advance c a x))
    (λ a n x le v g. absurd (cut_no_advance c a x))
known_alike {roster} log F p s (Advance a) l h m known =
    alike_with F p.epoch (Advance a)
    (λ d x. absurd (advance_no_cut a d x))
    (λ t x mat. absurd (advance_no_record a t x))
    (λ b x lt. let e : a ≡ b = advance_only a b x in subst (Contains (advances F)) e
    (known_wait log F p s a m known (subst (λ y. p.epoch < y.epoch) (sym e) lt)))
    (λ b n x le v g. let e : a ≡ b = advance_only a b x in subst (λ y. y.point ≤ n) e
    (known_point log F p s a m known n (subst (λ y. y.epoch ≤ p.epoch) (sym e) le) (subst (λ y. IsReader roster y.reader) (sym e) v)
    (subst (λ y. IsPoint (advances F) p.epoch y.reader n) (sym e) g)))

-- and the other way: what leaves the meaning as it is, is known

held_or_settled : {roster : ℕ} (log F : List Fact) (p : Position) (s : State) (r : RecordData) → MeansAt roster log F p s
    → IsAlive (cuts F) p.epoch r.epoch r.number → Contains (records F) r → IsKnown s (Record r)
held_or_settled log F p s r m alive h =
    ⊎_elim
    (λ (x : Contains s.held r). inr (inl x))
    (λ (x : IsInImage s r). inr (inr ((alive_in_facts log F p s m r.epoch r.number).1 alive, base_settled log F p s r.number m x.1)))
    (m.kept r h (inr alive))

record_known : {roster : ℕ} (log F : List Fact) (p : Position) (s : State) (r : RecordData) → MeansAt roster log F p s
    → (Matters (cuts F) p.epoch r → Contains (records F) r) → IsKnown s (Record r)
record_known log F p s r m there' =
    ⊎_elim
    (λ (w : p.epoch < r.epoch). ⊎_elim (λ (x : Contains s.held r). inr (inl x)) (λ (x : IsInImage s r). absurd (omega (arith, m.epoch, x.0, w)))
    (m.kept r (there' (inl w)) (inl w)))
    (λ (known : p.epoch < r.epoch → ⊥). ⊎_elim
    (λ (v : IsAlive (cuts F) p.epoch r.epoch r.number). held_or_settled log F p s r m v (there' (inr v)))
    (λ (dead : IsAlive (cuts F) p.epoch r.epoch r.number → ⊥). inl
    (omega (arith, known, m.epoch), λ v. dead ((alive_in_facts log F p s m r.epoch r.number).0 v)))
    (settled_alive (cuts F) p.epoch r.epoch r.number))
    (settled_lt p.epoch r.epoch)

alike_known : {roster : ℕ} (log F : List Fact) (p : Position) (s : State) (fact : Fact) → IsLog roster log → Contains log fact → MeansAt roster log F p s
    → Alike roster F (F ++ fact ∷ []) p.epoch → IsKnown s fact
alike_known log F p s (Record r) l inside m al =
    record_known log F p s r m (λ mat. (al.records r mat).1 (part_records (Record r ∷ []) (F ++ Record r ∷ []) (right F (Record r ∷ [])) r (record_there r)))
alike_known log F p s (Cut c) l inside m al =
    (m.book.same_cuts c).1 ((al.cuts c).1 (part_cuts (Cut c ∷ []) (F ++ Cut c ∷ []) (right F (Cut c ∷ [])) c (cut_there c)))
alike_known {roster} log F p s (Advance a) l inside m al =
    let r : IsReader roster a.reader = l.reader a ((advance_in log a).1 inside) in
    let new = part_advances (Advance a ∷ []) (F ++ Advance a ∷ []) (right F (Advance a ∷ [])) a (advance_there a) in
    ⊎_elim
    (λ (w : p.epoch < a.epoch). inr ((waits_as m a).1 ((al.waits a w).1 new, w)))
    (λ (known : p.epoch < a.epoch → ⊥).
    let le : a.epoch ≤ p.epoch = omega (arith, known) in
    let t : a.point ≤ point_of p.points a.reader = advance_le (advances (F ++ Advance a ∷ [])) p.epoch a.reader (point_of p.points a.reader)
    ((al.points a.reader (point_of p.points a.reader) r).0 (m.position.points.each a.reader r)) a new le refl in
    let e : point_of s.book.points a.reader ≡ point_of p.points a.reader = ap (λ ps. point_of ps a.reader) (points_as m) in
    inl (omega (arith, le, m.epoch), omega arith))
    (settled_lt p.epoch a.epoch)

-- the laws

pub takes_known : (s : State) (fact : Fact) → IsKnown s fact → TakesFact s fact s
takes_known s fact known roster log F sound inside a =
    let l = log_of_sound roster log sound in
    let m = a.1 in (
      a.0,
      means_alike log F (F ++ fact ∷ []) a.0 s (known_alike log F a.0 s fact l inside a.1 known)
          (both F (fact ∷ []) log m.part (part_of log fact inside)) a.1,
    )

known_leaves : (s : State) (fact : Fact) → IsKnown s fact → LeavesMeaning s fact
known_leaves s fact known roster log F m sound inside a mean =
    let l = log_of_sound roster log sound in
    (a.0, meaning_alike F (F ++ fact ∷ []) a.0 m (known_alike log F a.0 s fact l inside a.1 known) (meaning_at F a.0 m a.1.position mean))

new_changes : (s : State) (fact : Fact) → (IsKnown s fact → ⊥) → ChangesMeaning s fact
new_changes s fact new roster log F m sound inside a mean after = search (rules, log_of_sound, both, part_of, alike_by_meaning, meaning_at, alike_known)

pub unchanged_exactly : (s : State) (fact : Fact) → (IsKnown s fact → LeavesMeaning s fact) × ((IsKnown s fact → ⊥) → ChangesMeaning s fact)
unchanged_exactly s fact = (known_leaves s fact, new_changes s fact)

cut_conflict : {roster : ℕ} (log F : List Fact) (p : Position) (s : State) (c : CutData) → IsLog roster log → Contains log (Cut c) → MeansAt roster log F p s
    → (Contains s.book.cuts c → ⊥) → c.lo < min_of s → ⊥
cut_conflict {roster} log F p s c l inside m absent low =
    let hc = (cut_in log c).1 inside in
    let e : min_of s ≡ p.min = same_min log F p s m in
    ⊎_elim
    (λ (known : c.epoch ≤ p.epoch). absent ((m.book.same_cuts c).1 (knows_cuts log F l m.part p.epoch (has_cuts (cuts F) p.epoch m.position.epoch) c hc known)))
    (λ (later : p.epoch < c.epoch). let t : p.min ≤ c.lo = min_spared log F l m.part p.epoch p.min (min_at roster F p m.position) c hc later in omega arith)
    (let t : (c.epoch ≤ p.epoch) ⊎ (p.epoch < c.epoch) = grind arith in t)

-- a reader that is known to be past a truncation of a later epoch is past it in the log
known_past : {roster : ℕ} (log F : List Fact) (p : Position) (s : State) (c : CutData) → IsLog roster log → MeansAt roster log F p s → p.epoch < c.epoch
    → (reader : ℕ) → IsReader roster reader → IsKnownPast s.book.points s.book.waits c reader → IsPast (advances log) c reader
known_past log F p s c l m later reader r h =
    ⊎_elim
    (λ (low : c.lo < point_of s.book.points reader).
    let e : point_of s.book.points reader ≡ point_of p.points reader = ap (λ ps. point_of ps reader) (points_as m) in
    reader_past log F m.part p.epoch c later reader (point_of p.points reader) (m.position.points.each reader r) (omega arith))
    (λ (w : IsPast s.book.waits c reader). (w.0, part_advances F log m.part w.0 ((waits_as m w.0).0 w.1).0, w.2, w.3, w.4))
    h

-- a truncation that is not stored
absent_later : {roster : ℕ} (log F : List Fact) (p : Position) (s : State) (c : CutData) → IsLog roster log → Contains (cuts log) c → MeansAt roster log F p s
    → (Contains s.book.cuts c → ⊥) → p.epoch < c.epoch
absent_later log F p s c l hc m absent =
    ⊎_elim
    (λ (known : c.epoch ≤ p.epoch). absurd (absent
    ((m.book.same_cuts c).1 (knows_cuts log F l m.part p.epoch (has_cuts (cuts F) p.epoch m.position.epoch) c hc known))))
    (λ (later : p.epoch < c.epoch). later)
    (let t : (c.epoch ≤ p.epoch) ⊎ (p.epoch < c.epoch) = grind arith in t)

-- each reader is past a truncation of the log: no advance before it has a point above its lo
none_past : {roster : ℕ} (log : List Fact) (c : CutData) → IsLog roster log → Contains (cuts log) c
    → ((reader : ℕ) → IsReader roster reader → IsPast (advances log) c reader) → ⊥
none_past log c l hc past =
    let s = past 1 (omega arith, l.some_reader) in
    let t : s.0.point ≤ c.lo = l.spared s.0 c s.1 hc s.3 past in
    let u : c.lo < s.0.point = s.4 in
    omega arith

-- the readers are all past a truncation, where one is by an advance of its own and the others are
with_own : {roster : ℕ} (log : List Fact) (c : CutData) (a : AdvanceData) → Contains (advances log) a → a.epoch < c.epoch → c.lo < a.point
    → ((reader : ℕ) → IsReader roster reader → reader ≢ a.reader → IsPast (advances log) c reader) → (reader : ℕ) → IsReader roster reader
    → IsPast (advances log) c reader
with_own log c a h lt low others reader r =
    ⊎_elim
    (λ (e : reader ≡ a.reader). (a, h, sym e, lt, low))
    (λ (no : reader ≢ a.reader). others reader r no)
    (let t : (reader ≡ a.reader) ⊎ (reader ≢ a.reader) = grind arith in t)

no_conflict_at : {roster : ℕ} (log F : List Fact) (p : Position) (s : State) (fact : Fact) → IsLog roster log → Contains log fact → MeansAt roster log F p s
    → Conflicts s fact → ⊥
no_conflict_at log F p s (Record r) l inside m x = x.4 (l.same_record x.0 r (m.of_log x.0 x.1) ((record_in log r).1 inside) x.2 x.3)
no_conflict_at log F p s (Cut c) l inside m x =
    let hc = (cut_in log c).1 inside in
    ⊎_elim
    (λ (o : (other : CutData) × Contains s.book.cuts other × (other.epoch ≡ c.epoch) × (other ≢ c)). o.3
    (l.same_cut o.0 c (part_cuts F log m.part o.0 ((m.book.same_cuts o.0).0 o.1)) hc o.2))
    (λ (n : (Contains s.book.cuts c → ⊥) × ((c.lo < min_of s) ⊎ OthersPast s.book.points s.book.waits c 0)).
    ⊎_elim
    (λ (low : c.lo < min_of s). cut_conflict log F p s c l inside m n.0 low)
    (λ (all : OthersPast s.book.points s.book.waits c 0).
    let later = absent_later log F p s c l hc m n.0 in
    none_past log c l hc (λ reader r. known_past log F p s c l m later reader r
    (all reader (subst (λ n. IsReader n reader) (sym m.readers) r) (λ z. omega (arith, z, r.0)))))
    n.1)
    x
no_conflict_at {roster} log F p s (Advance a) l inside m x =
    let ha = (advance_in log a).1 inside in
    let count = m.readers in
    ⊎_elim
    (λ (no : IsReader (roster_of s.book) a.reader → ⊥). no (subst (λ n. IsReader n a.reader) (sym count) (l.reader a ha)))
    (λ (o : (c : CutData) × Contains s.book.cuts c × CutsBelow s.book.complete s.book.points s.book.waits c a).
    let hc = part_cuts F log m.part o.0 ((m.book.same_cuts o.0).0 o.1) in
    none_past log o.0 l hc (with_own log o.0 a ha o.2.0.0 o.2.0.1
    (⊎_elim
    (λ (one : roster_of s.book ≡ 1). λ reader r no. absurd (no (only_reader roster reader a.reader (sym count ∙ one) r (l.reader a ha))))
    (λ (many : (s.book.complete < o.0.epoch) × OthersPast s.book.points s.book.waits o.0 a.reader). λ reader r no. known_past log F p s o.0 l m
    (omega (arith, m.epoch, many.0)) reader r (many.1 reader (subst (λ n. IsReader n reader) (sym count) r) no))
    o.2.1)))
    x
  where
    only_reader : (n i j : ℕ) → n ≡ 1 → IsReader n i → IsReader n j → i ≡ j
    only_reader n i j e r q = omega (arith, e, r.0, r.1, q.0, q.1)

pub no_conflict : (roster : ℕ) (log F : List Fact) (s : State) (fact : Fact) → IsSound roster log → Contains log fact → Means roster log F s → Conflicts s fact
    → ⊥
no_conflict roster log F s fact sound inside a x = search (rules, no_conflict_at, log_of_sound)
