-- What a writer stores is true of its log: at the start, and with one more record, truncation or advance.
use Rattle.std.proofs.Common.{◌≡◌, ◌≢◌, ℕ, ◌+◌, ◌-◌, max, replicate, ◌<◌, ◌≤◌, ◌⊎◌, inl, inr, ⊎_elim, List, [], ◌∷◌, ◌++◌, length, get_or, refl, sym, ap, ◌∙◌, subst, arith, Option, Some, None, cond, Bool, true, rules}
use Rattle.std.specs.Prelude.{slice_get, ◌==◌}
use Rattle.std.specs.List.{Contains, AllByRecursion}
use Rattle.std.proofs.lemmas.Bool.Decides.{nat_tests}
use Rattle.std.proofs.lemmas.Bool.{cases_lt, cases_eq, eq-eqb}
use Rattle.std.proofs.lemmas.List.{get_or-replicate, length-replicate}
use Rattle.std.proofs.lemmas.Option.{none-some, slice_get_within, get_or_from_slice_get}
use Rattle.std.proofs.lemmas.List.Elements.{Contains-append_left, Contains-append_right, Contains-append_cases, Contains-push}
use Rattle.redo_core.specs.Writes.{WriteData}
use Rattle.redo_core.specs.Data.{RecordData, CutData, AdvanceData, record_of}
use Rattle.redo_core.specs.Shape.{cut_fault, advance_fault, record_fault}
use Rattle.redo_core.specs.Sets.{records, cuts, advances}
use Rattle.redo_core.specs.Roster.{IsRoster, IsReader, least, point_of}
use Rattle.redo_core.specs.Points.{HasAdvance, IsPoint, ArePoints}
use Rattle.redo_core.specs.Past.{ArePast}
use Rattle.redo_core.proofs.Points.{least_ge}
use Rattle.redo_core.specs.Order.{IsGreatest, IsRising}
use Rattle.redo_core.specs.Standing.{IsAlive}
use Rattle.redo_core.specs.CompleteEpoch.{HasCutsTo, IsCompleteEpoch}
use Rattle.redo_core.specs.Sound.{counted, HasShape, Law1, Law2, IsSound, IsAliveBelow}
use Rattle.redo_core.specs.declared.facts.Fact.{Fact}
use Rattle.redo_core.specs.declared.facts.Fact.TheVariants.{Record, Cut, Advance}
use Rattle.redo_core.proofs.Members.{none_in, here, only}
use Rattle.redo_core.proofs.FactParts.{record_in, cut_in, advance_in}
use Rattle.redo_core.proofs.SoundFacts.{kept, cut_facts}
use Rattle.log_law.specs.Counted.{first_cut, or_first}
use Rattle.log_law.specs.Alive.{stack_of, top_number, page_top, without_above, NotBelow, IsStack, HoldsAlive}
use Rattle.log_law.specs.Links.{IsItem, AreItems, KeyBelow}
use Rattle.log_law.specs.Writing.{IsWritten, IsBoundAt, IsBound, IsMinimum, WriterData, writer_of, plain_record}
use Rattle.log_law.specs.declared.alive.Entry.{Entry}
use Rattle.log_law.specs.declared.alive.AliveRecords.{AliveRecords}
use Rattle.log_law.specs.declared.links.Item.{Item}
use Rattle.log_law.proofs.FirstCuts.{counted_at, counted_among, first_cut-append, first_cut-one}
use Rattle.log_law.proofs.Entered.{holds_nothing, holds_push, next_view}
use Rattle.log_law.proofs.Least.{same_redo, one_redo}
use Rattle.log_law.proofs.Judging.{IsGroup, law3_top, law4_top, can_push}
use Rattle.log_law.proofs.Lengthened.{new_place, last_place, place_cases, record_cases, record_longer, record_last, cut_cases, cut_longer, cut_last, advance_cases, advance_longer, advance_last, counted_cases, KeepsRest, sound_push, Extends, extends_other, extends_cut, alive_longer, alive_shorter, has_cuts_longer, record_keeps, advance_keeps}
use Rattle.log_law.proofs.Repeats.{cut_eq, law1_advance}

advance_same : (a b : AdvanceData) → Advance a ≡ Advance b → a ≡ b
advance_same a b e = cc

-- the points where the effective advances are the same
points_as : {roster : ℕ} (xs ys : List AdvanceData) (k j : ℕ) (points : List ℕ)
    → ((a : AdvanceData) → Contains xs a → a.epoch ≤ k → Contains ys a × (a.epoch ≤ j))
    → ((a : AdvanceData) → Contains ys a → a.epoch ≤ j → Contains xs a × (a.epoch ≤ k)) → ArePoints roster xs k points → ArePoints roster ys j points
points_as xs ys k j points there back p = record {
  count = p.count;
  each = λ reader r. (
    ⊎_elim inl (λ (h : HasAdvance xs k reader (point_of points reader)). let t = there h.0 h.1 h.2 in inr (h.0, t.0, t.1, h.3, h.4)) (p.each reader r).0,
    λ m h. let t = back h.0 h.1 h.2 in (p.each reader r).1 m (h.0, t.0, t.1, h.3, h.4),
  );
}

-- a truncation with no lo below the least point has a reader that is not past it
not_past : {roster : ℕ} (given : List AdvanceData) (k : ℕ) (points : List ℕ) (c : CutData) → 1 ≤ roster → ArePoints roster given k points
    → ((a : AdvanceData) → Contains given a → a.epoch ≤ k) → least points ≤ c.lo → ArePast roster given c → ⊥
not_past {roster} given k points c some p within low past =
    let up : c.lo + 1 ≤ least points = least_ge roster points (c.lo + 1) p.count some (λ reader r.
    let s = past reader r in
    let t : s.0.point ≤ point_of points reader = (p.each reader r).1 s.0.point (s.0, s.1, within s.0 s.1, s.2, refl) in
    let u : c.lo < s.0.point = s.4 in
    omega arith) in
    omega arith

-- one advance more
points_raised : {roster : ℕ} (log : List Fact) (k : ℕ) (old new : List ℕ) (a : AdvanceData) → a.epoch ≤ k → length new ≡ length old
    → point_of new a.reader ≡ max (point_of old a.reader) a.point
    → ((reader : ℕ) → IsReader (length old) reader → reader ≢ a.reader → point_of new reader ≡ point_of old reader) → ArePoints roster (advances log) k old
    → ArePoints roster (advances (log ++ Advance a ∷ [])) k new
points_raised {roster} log k old new a known len raised others p = record {
  count = len ∙ p.count;
  each = λ reader r. ⊎_elim (own reader r) (other reader r) (cases_eq reader a.reader);
}
  where
    longer : (reader m : ℕ) → HasAdvance (advances log) k reader m → HasAdvance (advances (log ++ Advance a ∷ [])) k reader m
    longer reader m h = (h.0, advance_longer log (Advance a) h.0 h.1, h.2, h.3, h.4)

    shorter : (reader m : ℕ) → HasAdvance (advances (log ++ Advance a ∷ [])) k reader m
        → HasAdvance (advances log) k reader m ⊎ ((a.reader ≡ reader) × (a.point ≡ m))
    shorter reader m h = ⊎_elim
        (λ i. inl (h.0, i, h.2, h.3, h.4))
        (λ (i : Advance a ≡ Advance h.0). let e = advance_same a h.0 i in inr (ap (λ y. y.reader) e ∙ h.3, ap (λ y. y.point) e ∙ h.4))
        (advance_cases log (Advance a) h.0 h.1)

    other : (reader : ℕ) → IsReader roster reader → reader ≢ a.reader → IsPoint (advances (log ++ Advance a ∷ [])) k reader (point_of new reader)
    other reader r apart =
        let q : point_of new reader ≡ point_of old reader = others reader (subst (λ n. IsReader n reader) (sym p.count) r) apart in
        subst (IsPoint (advances (log ++ Advance a ∷ [])) k reader) (sym q) (
          ⊎_elim inl (λ h. inr (longer reader (point_of old reader) h)) (p.each reader r).0,
          λ m h. ⊎_elim (λ i. (p.each reader r).1 m i) (λ (i : (a.reader ≡ reader) × (a.point ≡ m)). absurd (apart (sym i.0))) (shorter reader m h),
        )

    own : (reader : ℕ) → IsReader roster reader → reader ≡ a.reader → IsPoint (advances (log ++ Advance a ∷ [])) k reader (point_of new reader)
    own reader r e =
        let q : point_of new reader ≡ max (point_of old reader) a.point = subst (λ n. point_of new n ≡ max (point_of old n) a.point) (sym e) raised in (
          ⊎_elim
              (λ (s : point_of new reader ≡ point_of old reader). ⊎_elim (λ (z : point_of old reader ≡ 0). inl (s ∙ z))
              (λ h. inr (subst (HasAdvance (advances (log ++ Advance a ∷ [])) k reader) (sym s) (longer reader (point_of old reader) h)))
              (p.each reader r).0)
              (λ (s : point_of new reader ≡ a.point). inr (a, advance_last log a, known, sym e, sym s))
              (let t : (point_of new reader ≡ point_of old reader) ⊎ (point_of new reader ≡ a.point) = grind (arith, q) in t),
          λ m h. ⊎_elim
              (λ i. let l : m ≤ point_of old reader = (p.each reader r).1 m i in omega (arith, q))
              (λ (i : (a.reader ≡ reader) × (a.point ≡ m)). let l : a.point ≡ m = i.1 in omega (arith, q))
              (shorter reader m h),
        )

pub written_nothing : (roster : ℕ) (s : AliveRecords) → IsRoster roster → IsStack s → stack_of s ≡ [] → s.view ≡ 0
    → IsWritten roster [] s 0 (replicate roster 0)
written_nothing roster s readers k e v = record {
  sound = record { readers = readers; keeps = λ p f h. absurd (none-some f h) };
  begun = λ i l m. absurd (omega arith);
  upto = λ c h. absurd (none_in (Cut c) ((cut_in [] c).0 h));
  within = λ r h. absurd (none_in (Record r) ((record_in [] r).0 h));
  bound = record {
    numbers = λ r h q. absurd (none_in (Record r) ((record_in [] r).0 h));
    base = λ c h q. absurd (none_in (Cut c) ((cut_in [] c).0 h));
    least = inr (inr (v, refl));
  };
  given = λ a h. absurd (none_in (Advance a) ((advance_in [] a).0 h));
  reached = record {
    count = length-replicate roster 0;
    each = λ reader r. (
      inl (get_or-replicate roster (reader - 1) 0 0 (omega (arith, r.0, r.1))),
      λ m h. absurd
          (none_in (Advance h.0) ((advance_in [] h.0).0 h.1)),
    );
  };
  held = ([], record { each = λ t h. absurd (none_in t h); all = λ p r l h w. absurd (none-some (Record r) h) }, holds_nothing [] s k e);
}

pub at_in : (log : List Fact) (p : ℕ) (r : RecordData) → slice_get log p ≡ Some (Record r) → Contains (records log) r
at_in log p r h = (record_in log r).1 (p, slice_get_within log p (Record r) h, get_or_from_slice_get log p (Record r) (Record r) h)

-- items and the stack, in a longer log
item_longer : {roster : ℕ} (log : List Fact) (f : Fact) (view : ℕ) (t : Item) → Extends roster log (log ++ f ∷ []) view
    → ((r : RecordData) → Contains (records log) r → r.epoch ≤ view) → IsItem log t → IsItem (log ++ f ∷ []) t
item_longer log f view t x within it =
    let l : it.redo.epoch ≤ view = within it.redo
    ((record_in log it.redo).1 (t.place, slice_get_within log t.place (Record it.redo) it.at, at_get log t.place (Record it.redo) it.at)) in
    record {
      redo = it.redo;
      at = new_place log f (Record it.redo) t.place it.at;
      begun = (has_cuts_longer log (log ++ f ∷ []) view it.redo.epoch x it.begun.0, λ c h e. it.begun.1 c (x.down c h (omega arith)) e);
      epoch = it.epoch;
      number = it.number;
      page = it.page;
      back = it.back;
      block_back = it.block_back;
    }
  where
    at_get : (xs : List Fact) (p : ℕ) (g : Fact) → slice_get xs p ≡ Some g → get_or xs p g ≡ g
    at_get xs p g h = get_or_from_slice_get xs p g g h

law2_back : {roster : ℕ} (log : List Fact) (f : Fact) (view : ℕ) (r : RecordData) → Extends roster log (log ++ f ∷ []) view → HasCutsTo (counted log) view
    → r.epoch ≤ view → Law2 (log ++ f ∷ []) (Record r) → Law2 log (Record r)
law2_back log f view r x has l law = (λ i a b. has i a (omega arith), λ c h e. law.1 c (x.up c h) e)

items_longer : {roster : ℕ} (log : List Fact) (f : Fact) (view : ℕ) (past : List Item) → Extends roster log (log ++ f ∷ []) view → HasCutsTo (counted log) view
    → ((r : RecordData) → Contains (records log) r → r.epoch ≤ view) → ((r : RecordData) → f ≡ Record r → ⊥) → AreItems log past → AreItems (log ++ f ∷ []) past
items_longer log f view past x has within other are = record {
  each = λ t h. item_longer log f view t x within (are.each t h);
  all = λ p r l h law. ⊎_elim
      (λ (o : (p < length log) × (slice_get log p ≡ Some (Record r))).
      are.all p r o.0 o.1 (law2_back log f view r x has (within r (at_in log p r o.1)) law))
      (λ (o : (p ≡ length log) × (f ≡ Record r)). absurd (other r o.1))
      (place_cases log f (Record r) p h);
}

holds_longer : {roster : ℕ} (log : List Fact) (f : Fact) (past : List Item) (s : AliveRecords) → Extends roster log (log ++ f ∷ []) s.view → HoldsAlive log past s
    → HoldsAlive (log ++ f ∷ []) past s
holds_longer log f past s x h = record {
  stack = h.stack;
  falls = h.falls;
  known = h.known;
  each = λ y m. let w = h.each y m in (w.0, w.1, alive_longer log (log ++ f ∷ []) s.view s.view w.0.epoch w.0.number x (omega arith) w.2, w.3, w.4);
  all = λ t m a. h.all t m (alive_shorter log (log ++ f ∷ []) s.view s.view t.epoch t.number x a);
}

-- one more record
abbrev pub item_of_last : (log : List Fact) (r : RecordData) → Item
item_of_last log r = record { place = length log; epoch = r.epoch; number = r.number; page = r.page; back = r.back; block_back = r.block_back }

-- the group of the last record alone
last_item : {roster : ℕ} (log : List Fact) (s : AliveRecords) (last : ℕ) (points : List ℕ) (r : RecordData) → IsWritten roster log s last points
    → r.epoch ≡ s.view → last < r.number → IsItem (log ++ Record r ∷ []) (item_of_last log r)
last_item {roster} log s last points r w ep above =
    let x : Extends roster log (log ++ Record r ∷ []) s.view = extends_other log (Record r) s.view (λ c e. absurd (cc))
    (λ d hd. w.upto d (counted_among log d hd)) (λ b e. absurd (cc)) in
    record {
      redo = r;
      at = last_place log (Record r);
      begun = (
        subst (HasCutsTo (counted (log ++ Record r ∷ []))) (sym ep) (has_cuts_longer log (log ++ Record r ∷ []) s.view s.view x w.begun),
        λ c h e. let l : c.hi ≤ last = w.bound.base c (counted_among log c (x.down c h (omega arith))) (e ∙ ep) in omega arith,
      );
      epoch = refl;
      number = refl;
      page = refl;
      back = refl;
      block_back = refl;
    }

last_group : {roster : ℕ} (log : List Fact) (s : AliveRecords) (last : ℕ) (points : List ℕ) (r : RecordData) → (w : IsWritten roster log s last points)
    → r.epoch ≡ s.view → last < r.number → IsGroup (log ++ Record r ∷ []) (w.held.0 ++ item_of_last log r ∷ []) w.held.0 (item_of_last log r ∷ []) s
last_group {roster} log s last points r w ep above =
    let longer = log ++ Record r ∷ [] in
    let t = item_of_last log r in
    let past = w.held.0 in
    let are = w.held.1 in
    let holds = w.held.2 in
    let x : Extends roster log (log ++ Record r ∷ []) s.view = extends_other log (Record r) s.view (λ c e. absurd (cc))
    (λ d hd. w.upto d (counted_among log d hd)) (λ b e. absurd (cc)) in
    record {
      ordered = λ c h. ⊎_elim
          (λ (m : Contains (cuts log) c). (cut_facts c (kept roster log (Cut c) w.sound ((cut_in log c).0 m)).shape).1)
          (λ (e : Record r ≡ Cut c). absurd (cc))
          (cut_cases log (Record r) c h);
      are = record {
        each = λ u h. ⊎_elim
            (λ (m : Contains past u). item_longer log (Record r) s.view u x w.within (are.each u m))
            (λ (m : Contains (t ∷ []) u). subst (IsItem longer) (only t u m) (last_item log s last points r w ep above))
            (Contains-append_cases past (t ∷ []) u h);
        all = λ p q l h law. ⊎_elim
            (λ (o : (p < length log) × (slice_get log p ≡ Some (Record q))).
            let i = are.all p q o.0 o.1 (law2_back log (Record r) s.view q x w.begun (w.within q (at_in log p q o.1)) law) in
            (i.0, Contains-append_left past (t ∷ []) i.0 i.1, i.2))
            (λ (o : (p ≡ length log) × (Record r ≡ Record q)). (t, Contains-push past t, sym o.0))
            (place_cases log (Record r) (Record q) p h);
      };
      holds = holds_longer log (Record r) past s x holds;
      inside = λ u h. Contains-append_right past (t ∷ []) u h;
      before = λ u h. Contains-append_left past (t ∷ []) u h;
      split = λ v u hv hu below. ⊎_elim
          (λ (m : Contains past u). m)
          (λ (m : Contains (t ∷ []) u). absurd (key_apart u v (ap (λ y. y.epoch) (sym (only t u m) ∙ only t v hv))
          (ap (λ y. y.number) (sym (only t u m) ∙ only t v hv)) below))
          (Contains-append_cases past (t ∷ []) u hu);
      apart = λ v u hv hu. subst (KeyBelow u) (only t v hv) (earlier_key u hu);
      view = λ v hv. ap (λ y. y.epoch) (sym (only t v hv)) ∙ ep;
      same = λ v u hv hu. ap (λ y. y.number) (sym (only t v hv) ∙ only t u hu);
    }
  where
    key_apart : (u v : Item) → u.epoch ≡ v.epoch → u.number ≡ v.number → KeyBelow u v → ⊥
    key_apart u v e n h = ⊎_elim (λ (a : u.epoch < v.epoch). omega arith)
        (λ (a : (u.epoch ≡ v.epoch) × (u.number < v.number)). let b : u.number < v.number = a.1 in omega arith) h

    earlier_key : (u : Item) → Contains w.held.0 u → KeyBelow u (item_of_last log r)
    earlier_key u hu =
        let it = w.held.1.each u hu in
        let among = at_in log u.place it.redo it.at in
        let e : u.epoch ≡ it.redo.epoch = it.epoch in
        let n : u.number ≡ it.redo.number = it.number in
        let l : it.redo.epoch ≤ s.view = w.within it.redo among in
        ⊎_elim
        (λ (q : it.redo.epoch ≡ s.view). let m : it.redo.number ≤ last = w.bound.numbers it.redo among q in inr (omega arith, omega arith))
        (λ (q : it.redo.epoch ≢ s.view). inl (omega arith))
        (cases_eq it.redo.epoch s.view)

record_apart : {roster : ℕ} (log : List Fact) (s : AliveRecords) (last : ℕ) (points : List ℕ) (r : RecordData) → IsWritten roster log s last points
    → r.epoch ≡ s.view → last < r.number → Law1 log (Record r)
record_apart log s last points r w ep above (Record q) h k =
    absurd (let m : q.number ≤ last = w.bound.numbers q ((record_in log q).1 h) (k.0 ∙ ep) in let n : q.number ≡ r.number = k.1 in omega arith)
record_apart log s last points r w ep above (Cut c) h k = absurd k
record_apart log s last points r w ep above (Advance a) h k = absurd k

record_rest : {roster : ℕ} (log : List Fact) (s : AliveRecords) (last : ℕ) (points : List ℕ) (r : RecordData) → IsWritten roster log s last points
    → r.epoch ≡ s.view → last < r.number → (g : Fact) → Contains log g → KeepsRest roster log g → KeepsRest roster (log ++ Record r ∷ []) g
record_rest {roster} log s last points r w ep above (Record q) h k =
    let x : Extends roster log (log ++ Record r ∷ []) s.view = extends_other log (Record r) s.view (λ c e. absurd (cc))
    (λ d hd. w.upto d (counted_among log d hd)) (λ b e. absurd (cc)) in
    let hq = (record_in log q).1 h in
    let l : q.epoch ≤ s.view = w.within q hq in
    record_keeps log (log ++ Record r ∷ []) s.view q x (λ o m. record_longer log (Record r) o m)
    (λ o m a below. ⊎_elim
    (λ (i : Contains (records log) o). i)
    (λ (e : Record r ≡ Record o).
    let same : r ≡ o = same_redo r o e in
    let known : o.epoch ≤ q.epoch = a.known in
    let oe : r.epoch ≡ o.epoch = ap (λ y. y.epoch) same in
    let on : r.number ≡ o.number = ap (λ y. y.number) same in
    let top' : q.number ≤ last = w.bound.numbers q hq (omega arith) in
    absurd (omega arith))
    (record_cases log (Record r) o m)) l k
record_rest {roster} log s last points r w ep above (Cut c) h k = (tt, tt, tt, tt)
record_rest {roster} log s last points r w ep above (Advance a) h k =
    advance_keeps log (log ++ Record r ∷ []) s.view a
    (extends_other log (Record r) s.view (λ c e. absurd (cc)) (λ d hd. w.upto d (counted_among log d hd)) (λ b e. absurd (cc))) k

pub written_record : {roster : ℕ} (log : List Fact) (s new : AliveRecords) (last : ℕ) (points : List ℕ) (r : RecordData) (x : Entry)
    → IsWritten roster log s last points → HasShape (Record r) → r.epoch ≡ s.view → last < r.number → r.back ≡ top_number (stack_of s)
    → r.block_back ≡ page_top r.page (stack_of s) → IsStack new → new.view ≡ s.view → stack_of new ≡ x ∷ stack_of s → x.number ≡ r.number → x.page ≡ r.page
    → IsWritten roster (log ++ Record r ∷ []) new r.number points
written_record {roster} log s new last points r x w shape ep above eb ec k v st xn xp =
    let longer = log ++ Record r ∷ [] in
    let t = item_of_last log r in
    let past = w.held.0 in
    let items = w.held.0 ++ item_of_last log r ∷ [] in
    let e : Extends roster log (log ++ Record r ∷ []) s.view = extends_other log (Record r) s.view (λ c q. absurd (cc))
    (λ d hd. w.upto d (counted_among log d hd)) (λ b q. absurd (cc)) in
    let it = last_item log s last points r w ep above in
    let g = last_group log s last points r w ep above in
    let ht : Contains (t ∷ []) t = here t [] in
    let same : it.redo ≡ r = one_redo longer (length log) it.redo r it.at (last_place log (Record r)) in
    let two = subst (λ q. Law2 longer (Record q)) same it.begun in
    let three = subst (IsGreatest (IsAliveBelow longer r (λ o. Unit {0}))) (sym eb)
    (subst (λ q. IsGreatest (IsAliveBelow longer q (λ o. Unit {0})) (top_number (stack_of s))) same (law3_top longer items past (t ∷ []) s g t ht it)) in
    let four = subst (IsGreatest (IsAliveBelow longer r (λ o. o.page ≡ r.page))) (sym ec)
    (subst (λ q. IsGreatest (IsAliveBelow longer q (λ o. o.page ≡ q.page)) (page_top q.page (stack_of s))) same
    (law4_top longer items past (t ∷ []) s g t ht it)) in
    let follow = can_push longer items past (t ∷ []) s g in
    record {
      sound = sound_push log (Record r) w.sound (record_rest log s last points r w ep above) shape (record_apart log s last points r w ep above)
          (two, three, four, tt);
      begun = subst (HasCutsTo (counted longer)) (sym v) (has_cuts_longer log longer s.view s.view e w.begun);
      upto = λ c h. subst (λ i. c.epoch ≤ i) (sym v) (⊎_elim (w.upto c) (λ (q : Record r ≡ Cut c). absurd (cc)) (cut_cases log (Record r) c h));
      within = λ q h. subst (λ i. q.epoch ≤ i) (sym v)
          (⊎_elim (w.within q) (λ (m : Record r ≡ Record q). let n : r.epoch ≡ q.epoch = ap (λ y. y.epoch) (same_redo r q m) in omega arith)
          (record_cases log (Record r) q h));
      bound = subst (λ i. IsBoundAt longer i r.number) (sym v) (record {
        numbers = λ q h n. ⊎_elim (λ m. let l : q.number ≤ last = w.bound.numbers q m n in omega arith)
            (λ (m : Record r ≡ Record q). let o : r.number ≡ q.number = ap (λ y. y.number) (same_redo r q m) in omega arith) (record_cases log (Record r) q h);
        base = λ c h n. ⊎_elim (λ m. let l : c.hi ≤ last = w.bound.base c m n in omega arith) (λ (m : Record r ≡ Cut c). absurd (cc))
            (cut_cases log (Record r) c h);
        least = inl (r, record_last log r, ep, refl);
      });
      given = λ b h. let l : b.epoch ≤ s.view = ⊎_elim (w.given b) (λ (i : Record r ≡ Advance b). absurd (cc)) (advance_cases log (Record r) b h) in
          omega arith;
      reached = points_as (advances log) (advances longer) s.view new.view points
          (λ b h l. (advance_longer log (Record r) b h, omega arith))
          (λ b h l. let i = ⊎_elim (λ i. i) (λ (i : Record r ≡ Advance b). absurd (cc)) (advance_cases log (Record r) b h) in (i, w.given b i))
          w.reached;
      held = (items, g.are, holds_push longer past s new t x xn xp k v st (follow.alive t ht) (λ y m. follow.above t y ht m) g.holds);
    }

-- one more truncation
cut_apart : (log : List Fact) (c : CutData) (view : ℕ) → ((d : CutData) → Contains (cuts log) d → d.epoch ≤ view) → view < c.epoch → Law1 log (Cut c)
cut_apart log c view upto after (Record q) h k = absurd k
cut_apart log c view upto after (Cut d) h k = absurd (let l : d.epoch ≤ view = upto d ((cut_in log d).1 h) in let e : d.epoch ≡ c.epoch = k in omega arith)
cut_apart log c view upto after (Advance a) h k = absurd k

cut_rest : {roster : ℕ} (log : List Fact) (s : AliveRecords) (last : ℕ) (points : List ℕ) (c : CutData) → IsWritten roster log s last points
    → Extends roster log (log ++ Cut c ∷ []) s.view → (g : Fact) → Contains log g → KeepsRest roster log g → KeepsRest roster (log ++ Cut c ∷ []) g
cut_rest log s last points c w x (Record q) h k =
    let hq = (record_in log q).1 h in
    record_keeps log (log ++ Cut c ∷ []) s.view q x (λ o m. record_longer log (Cut c) o m)
    (λ o m a below. ⊎_elim (λ (i : Contains (records log) o). i) (λ (e : Cut c ≡ Record o). absurd (cc)) (record_cases log (Cut c) o m)) (w.within q hq) k
cut_rest log s last points c w x (Cut d) h k = (tt, tt, tt, tt)
cut_rest log s last points c w x (Advance a) h k = advance_keeps log (log ++ Cut c ∷ []) s.view a x k

first_new : (log : List Fact) (c : CutData) (view : ℕ) → ((d : CutData) → Contains (cuts log) d → d.epoch ≤ view) → view < c.epoch
    → first_cut (log ++ Cut c ∷ []) c.epoch ≡ Some c
first_new log c view upto after = at_first (first_cut log c.epoch) refl
  where
    at_first : (o : Option CutData) → first_cut log c.epoch ≡ o → first_cut (log ++ Cut c ∷ []) c.epoch ≡ Some c
    at_first None q = first_cut-append log (Cut c ∷ []) c.epoch ∙ ap (λ o. or_first o (first_cut (Cut c ∷ []) c.epoch)) q ∙ first_cut-one c c.epoch ∙ ap
        (λ b. cond b (Some c) None) (eq-eqb c.epoch c.epoch refl)
    at_first (Some d) q =
        let k = counted_at log c.epoch d q in
        absurd (let l : d.epoch ≤ view = upto d (counted_among log d k.0) in let e : d.epoch ≡ c.epoch = k.1 in omega arith)

pub written_cut : {roster : ℕ} (log : List Fact) (s new : AliveRecords) (last : ℕ) (points : List ℕ) (c : CutData) → IsWritten roster log s last points
    → cut_fault c ≡ None → c.epoch ≡ s.view + 1 → least points ≤ c.lo → IsStack new → new.view ≡ s.view + 1 → stack_of new ≡ without_above c.lo (stack_of s)
    → IsWritten roster (log ++ Cut c ∷ []) new c.hi points
written_cut {roster} log s new last points c w shape ep low k v st =
    let longer = log ++ Cut c ∷ [] in
    let after : s.view < c.epoch = omega arith in
    let x : Extends roster log (log ++ Cut c ∷ []) s.view = extends_cut log c s.view after
    (not_past (advances log) s.view points c w.sound.readers.0 w.reached w.given low) in
    let first : first_cut (log ++ Cut c ∷ []) (s.view + 1) ≡ Some c = subst (λ i. first_cut (log ++ Cut c ∷ []) i ≡ Some c) ep
    (first_new log c s.view w.upto after) in
    record {
      sound = sound_push log (Cut c) w.sound (cut_rest log s last points c w x) shape (cut_apart log c s.view w.upto after) (tt, tt, tt, tt);
      begun = λ i l m. ⊎_elim
          (λ (q : i ≤ s.view). has_cuts_longer log longer s.view s.view x w.begun i l q)
          (λ (q : s.view < i). let n = counted_at longer (s.view + 1) c first in (c, n.0, (let same : c.epoch ≡ i = omega arith in same)))
          (⊎_elim (λ (q : s.view < i). inr q) (λ (q : i ≤ s.view). inl q) (cases_lt s.view i));
      upto = λ d h. ⊎_elim (λ m. let l : d.epoch ≤ s.view = w.upto d m in omega arith)
          (λ (q : Cut c ≡ Cut d). let n : c.epoch ≡ d.epoch = ap (λ y. y.epoch) (cut_eq c d q) in omega arith) (cut_cases log (Cut c) d h);
      within = λ q h. ⊎_elim (λ m. let l : q.epoch ≤ s.view = w.within q m in omega arith) (λ (m : Cut c ≡ Record q). absurd (cc))
          (record_cases log (Cut c) q h);
      bound = record {
        numbers = λ q h n. ⊎_elim (λ m. absurd (let l : q.epoch ≤ s.view = w.within q m in omega arith)) (λ (m : Cut c ≡ Record q). absurd (cc))
            (record_cases log (Cut c) q h);
        base = λ d h n. ⊎_elim (λ m. absurd (let l : d.epoch ≤ s.view = w.upto d m in omega arith))
            (λ (q : Cut c ≡ Cut d). let o : c.hi ≡ d.hi = ap (λ y. y.hi) (cut_eq c d q) in omega arith) (cut_cases log (Cut c) d h);
        least = inr (inl (c, cut_last log c, ep ∙ sym v, refl));
      };
      given = λ b h. let l : b.epoch ≤ s.view = ⊎_elim (w.given b) (λ (i : Cut c ≡ Advance b). absurd (cc)) (advance_cases log (Cut c) b h) in omega arith;
      reached = points_as (advances log) (advances longer) s.view new.view points
          (λ b h l. (advance_longer log (Cut c) b h, omega arith))
          (λ b h l. let i = ⊎_elim (λ i. i) (λ (i : Cut c ≡ Advance b). absurd (cc)) (advance_cases log (Cut c) b h) in (i, w.given b i))
          w.reached;
      held = (
        w.held.0,
        items_longer log (Cut c) s.view w.held.0 x w.begun w.within (λ r e. absurd (cc)) w.held.1,
        next_view longer w.held.0 s new (Some c) first k v st (holds_longer log (Cut c) w.held.0 s x w.held.2),
      );
    }

-- one more advance
advance_rest : {roster : ℕ} (log : List Fact) (s : AliveRecords) (last : ℕ) (points : List ℕ) (a : AdvanceData) → IsWritten roster log s last points
    → Extends roster log (log ++ Advance a ∷ []) s.view → (g : Fact) → Contains log g → KeepsRest roster log g → KeepsRest roster (log ++ Advance a ∷ []) g
advance_rest log s last points a w x (Record q) h k =
    let hq = (record_in log q).1 h in
    record_keeps log (log ++ Advance a ∷ []) s.view q x (λ o m. record_longer log (Advance a) o m)
    (λ o m i below. ⊎_elim (λ (j : Contains (records log) o). j) (λ (e : Advance a ≡ Record o). absurd (cc)) (record_cases log (Advance a) o m))
    (w.within q hq) k
advance_rest log s last points a w x (Cut d) h k = (tt, tt, tt, tt)
advance_rest log s last points a w x (Advance b) h k = advance_keeps log (log ++ Advance a ∷ []) s.view b x k

pub advance_sound : {roster : ℕ} (log : List Fact) (s : AliveRecords) (last : ℕ) (points : List ℕ) (a : AdvanceData) → IsWritten roster log s last points
    → HasShape (Advance a) → a.epoch ≡ s.view → IsReader roster a.reader → IsSound roster (log ++ Advance a ∷ [])
advance_sound {roster} log s last points a w shape ep reader =
    let longer = log ++ Advance a ∷ [] in
    let x : Extends roster log (log ++ Advance a ∷ []) s.view = extends_other log (Advance a) s.view (λ c q. absurd (cc))
    (λ d hd. w.upto d (counted_among log d hd)) (λ b q. ap (λ y. y.epoch) (sym (advance_same a b q)) ∙ ep) in
    sound_push log (Advance a) w.sound (advance_rest log s last points a w x) shape (law1_advance log a) (
      tt,
      tt,
      tt,
      (
        reader,
        subst (HasCutsTo (counted longer)) (sym ep) (has_cuts_longer log longer s.view s.view x w.begun),
        λ c h l past. absurd (
            let m : c.epoch ≤ s.view = ⊎_elim (λ i. w.upto c (counted_among log c i)) (λ (q : Advance a ≡ Cut c). absurd (cc))
            (counted_cases log (Advance a) c h) in
            omega arith),
      ),
    )

pub written_advance : {roster : ℕ} (log : List Fact) (s : AliveRecords) (last : ℕ) (points higher : List ℕ) (a : AdvanceData)
    → IsWritten roster log s last points → HasShape (Advance a) → a.epoch ≡ s.view → IsReader roster a.reader → length higher ≡ length points
    → point_of higher a.reader ≡ max (point_of points a.reader) a.point
    → ((reader : ℕ) → IsReader (length points) reader → reader ≢ a.reader → point_of higher reader ≡ point_of points reader)
    → IsWritten roster (log ++ Advance a ∷ []) s last higher
written_advance {roster} log s last points higher a w shape ep of len raised others =
    let longer = log ++ Advance a ∷ [] in
    let x : Extends roster log (log ++ Advance a ∷ []) s.view = extends_other log (Advance a) s.view (λ c q. absurd (cc))
    (λ d hd. w.upto d (counted_among log d hd)) (λ b q. ap (λ y. y.epoch) (sym (advance_same a b q)) ∙ ep) in
    record {
      sound = advance_sound log s last points a w shape ep of;
      begun = has_cuts_longer log longer s.view s.view x w.begun;
      upto = λ c h. ⊎_elim (w.upto c) (λ (q : Advance a ≡ Cut c). absurd (cc)) (cut_cases log (Advance a) c h);
      within = λ q h. ⊎_elim (w.within q) (λ (m : Advance a ≡ Record q). absurd (cc)) (record_cases log (Advance a) q h);
      bound = record {
        numbers = λ q h n. ⊎_elim (λ m. w.bound.numbers q m n) (λ (m : Advance a ≡ Record q). absurd (cc)) (record_cases log (Advance a) q h);
        base = λ c h n. ⊎_elim (λ m. w.bound.base c m n) (λ (m : Advance a ≡ Cut c). absurd (cc)) (cut_cases log (Advance a) c h);
        least = ⊎_elim (λ h. inl (h.0, record_longer log (Advance a) h.0 h.1, h.2, h.3))
            (λ h. inr (⊎_elim (λ i. inl (i.0, cut_longer log (Advance a) i.0 i.1, i.2, i.3)) inr h)) w.bound.least;
      };
      given = λ b h. ⊎_elim (w.given b) (λ (i : Advance a ≡ Advance b). let n : a.epoch ≡ b.epoch = ap (λ y. y.epoch) (advance_same a b i) in omega arith)
          (advance_cases log (Advance a) b h);
      reached = points_raised log s.view points higher a (omega arith) len raised others w.reached;
      held = (
        w.held.0,
        items_longer log (Advance a) s.view w.held.0 x w.begun w.within (λ r e. absurd (cc)) w.held.1,
        holds_longer log (Advance a) w.held.0 s x w.held.2,
      );
    }

-- the view is the complete epoch
pub complete_view : {roster : ℕ} (log : List Fact) (s : AliveRecords) (last : ℕ) (points : List ℕ) → IsWritten roster log s last points
    → IsCompleteEpoch (cuts log) s.view
complete_view log s last points w = (
  inr (λ i l m. let c = w.begun i l m in (c.0, counted_among log c.0 c.1, c.2)),
  λ m h. ⊎_elim
      (λ (q : s.view < m). let c = h m (omega arith) (omega arith) in let l : c.0.epoch ≤ s.view = w.upto c.0 c.1 in let e : c.0.epoch ≡ m = c.2 in omega arith)
      (λ (q : m ≤ s.view). q)
      (cases_lt s.view m),
)

-- what the stack has is not above the bound
entry_at_most : {roster : ℕ} (log : List Fact) (s : AliveRecords) (last : ℕ) (points : List ℕ) → IsWritten roster log s last points → (x : Entry)
    → Contains (stack_of s) x → x.number ≤ last
entry_at_most {roster} log s last points w x hx =
    let h = w.held.2.each x hx in
    let t = h.0 in
    let it = w.held.1.each t h.1 in
    let alive : IsAlive (counted log) s.view t.epoch t.number = h.2 in
    let known : t.epoch ≤ s.view = alive.known in
    let n : t.number ≡ x.number = h.3 in
    ⊎_elim
    (λ (e : t.epoch ≡ s.view). let l : it.redo.number ≤ last = w.bound.numbers it.redo (at_in log t.place it.redo it.at) (sym it.epoch ∙ e) in
    let m : t.number ≡ it.redo.number = it.number in omega arith)
    (λ (e : t.epoch ≢ s.view).
    let c = w.begun s.view (omega arith) (omega arith) in
    let ce : c.0.epoch ≡ s.view = c.2 in
    let a : t.number ≤ c.0.lo = alive.spared c.0 c.1 (omega arith) (omega arith) in
    let among = counted_among log c.0 c.1 in
    let b : c.0.lo ≤ c.0.hi = (cut_facts c.0 (kept roster log (Cut c.0) w.sound ((cut_in log c.0).0 among)).shape).1 in
    let d : c.0.hi ≤ last = w.bound.base c.0 among ce in
    omega arith)
    (cases_eq t.epoch s.view)

top_of_list : (xs : List Entry) (last : ℕ) → ((x : Entry) → Contains xs x → x.number ≤ last) → top_number xs ≤ last
top_of_list [] last h = omega arith
top_of_list (x ∷ xs) last h = h x (here x xs)

pub top_at_most : {roster : ℕ} (log : List Fact) (s : AliveRecords) (last : ℕ) (points : List ℕ) → IsWritten roster log s last points
    → top_number (stack_of s) ≤ last
top_at_most log s last points w = top_of_list (stack_of s) last (entry_at_most log s last points w)

page_step : (g : ℕ) (x : Entry) (xs : List Entry) (b : Bool) → page_top g xs ≤ x.number → cond b x.number (page_top g xs) ≤ x.number
page_step g x xs b h = search rules

page_at_most : (g : ℕ) (xs : List Entry) (n : ℕ) → AllByRecursion (λ y. y.number ≤ n) xs → IsRising NotBelow xs → page_top g xs ≤ n
page_at_most g [] n all r = omega arith
page_at_most g (x ∷ xs) n all r = let l : cond (x.page == g) x.number (page_top g xs) ≤ x.number = page_step g x xs (x.page == g)
    (page_at_most g xs x.number r.0 r.1) in let m : x.number ≤ n = all.0 in omega arith

page_below_top : (g : ℕ) (xs : List Entry) → IsRising NotBelow xs → page_top g xs ≤ top_number xs
page_below_top g [] r = omega arith
page_below_top g (x ∷ xs) r = page_step g x xs (x.page == g) (page_at_most g xs x.number r.0 r.1)

pub page_at_most_top : {roster : ℕ} (log : List Fact) (s : AliveRecords) (last : ℕ) (points : List ℕ) (g : ℕ) → IsWritten roster log s last points
    → page_top g (stack_of s) ≤ top_number (stack_of s)
page_at_most_top log s last points g w = page_below_top g (stack_of s) w.held.2.falls

pub shape_of_plain : (e n b p bb : ℕ) (ws : List WriteData) → record_fault (plain_record n ws) ≡ None → b < n → bb ≤ b
    → record_fault (record_of e n b p bb ws) ≡ None
shape_of_plain e n b p bb ws h below le = search rules

-- the shape of a record with the tops of the stack for backlinks
pub shape_with_tops : {roster : ℕ} (log : List Fact) (s : AliveRecords) (last : ℕ) (points : List ℕ) (e n g b bb : ℕ) (ws : List WriteData)
    → IsWritten roster log s last points → record_fault (plain_record n ws) ≡ None → last < n → b ≡ top_number (stack_of s) → bb ≡ page_top g (stack_of s)
    → record_fault (record_of e n b g bb ws) ≡ None
shape_with_tops log s last points e n g b bb ws w h above top page =
    let highest : top_number (stack_of s) ≤ last = top_at_most log s last points w in
    let within : page_top g (stack_of s) ≤ top_number (stack_of s) = page_at_most_top log s last points g w in
    shape_of_plain e n b g bb ws h (omega arith) (omega arith)

-- the same stack, in other memory
pub written_same : {roster : ℕ} (log : List Fact) (s new : AliveRecords) (last : ℕ) (points : List ℕ) → IsWritten roster log s last points → IsStack new
    → stack_of new ≡ stack_of s → new.view ≡ s.view → IsWritten roster log new last points
written_same {roster} log s new last points w k st v = record {
  sound = w.sound;
  begun = subst (HasCutsTo (counted log)) (sym v) w.begun;
  upto = λ c h. subst (λ i. c.epoch ≤ i) (sym v) (w.upto c h);
  within = λ r h. subst (λ i. r.epoch ≤ i) (sym v) (w.within r h);
  bound = subst (λ i. IsBoundAt log i last) (sym v) w.bound;
  given = λ a h. subst (λ i. a.epoch ≤ i) (sym v) (w.given a h);
  reached = subst (λ i. ArePoints roster (advances log) i points) (sym v) w.reached;
  held = (
    w.held.0,
    w.held.1,
    record {
      stack = k;
      falls = subst (IsRising NotBelow) (sym st) w.held.2.falls;
      known = λ t h. subst (λ i. t.epoch ≤ i) (sym v) (w.held.2.known t h);
      each = λ x h. let q = w.held.2.each x (subst (λ xs. Contains xs x) st h) in
          (q.0, q.1, subst (λ i. IsAlive (counted log) i q.0.epoch q.0.number) (sym v) q.2, q.3, q.4);
      all = λ t h a. let q = w.held.2.all t h (subst (λ i. IsAlive (counted log) i t.epoch t.number) v a) in
          (q.0, subst (λ xs. Contains xs q.0) (sym st) q.1, q.2, q.3);
    },
  );
}

-- a push that had room
pub pushed : (old mid new : List Fact) (f : Fact) (ok : Bool) → ok ≡ true → mid ≡ old → new ≡ cond ok (mid ++ f ∷ []) mid → new ≡ old ++ f ∷ []
pushed old mid new f ok t e h = h ∙ ap (λ b. cond b (mid ++ f ∷ []) mid) t ∙ ap (λ xs. xs ++ f ∷ []) e

pub reader_some : (a : AdvanceData) → advance_fault a ≡ None → 1 ≤ a.reader
reader_some a h = grind (arith, nat_tests)

pub minimum_of : {roster : ℕ} (now : WriterData) (log : List Fact) (s : AliveRecords) (last : ℕ) (points : List ℕ) (n : ℕ) → IsWritten roster log s last points
    → writer_of roster log ≡ now → n ≡ least points → IsMinimum now.roster now.log n
minimum_of now log s last points n w e q = subst (λ v. IsMinimum v.roster v.log n) e (s.view, complete_view log s last points w, (points, w.reached, q))

pub bound_of : {roster : ℕ} (log now : List Fact) (s : AliveRecords) (last : ℕ) (points : List ℕ) → IsWritten roster log s last points → log ≡ now
    → IsBound now last
bound_of log now s last points w e = subst (λ xs. IsBound xs last) e (s.view, complete_view log s last points w, w.bound)
