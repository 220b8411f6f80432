-- A state of a sound log takes what a book and records of that log export.
use Rattle.std.proofs.Common.{◌≡◌, ℕ, ◌<◌, ◌≤◌, ◌⊎◌, inl, inr, ⊎_elim, List, [], ◌∷◌, ◌++◌, length, map, refl, sym, ap, ◌∙◌, subst, arith, rules}
use Rattle.std.specs.List.{Contains}
use Rattle.std.proofs.lemmas.List.{append-nil, append_assoc}
use Rattle.std.proofs.lemmas.List.Elements.{Contains-append_left, Contains-append_right}
use Rattle.redo_core.specs.Data.{RecordData, CutData, AdvanceData}
use Rattle.redo_core.specs.CompleteEpoch.{IsCompleteEpoch}
use Rattle.redo_core.specs.Past.{CutsBelow, OthersPast}
use Rattle.redo_core.specs.Standing.{IsAlive}
use Rattle.redo_core.specs.Points.{HasAdvance, RaisesPoints}
use Rattle.redo_core.specs.Roster.{IsReader, point_of}
use Rattle.redo_core.specs.Sets.{IsPart, advances}
use Rattle.redo_core.specs.Position.{Position, IsPosition}
use Rattle.redo_core.specs.Sound.{IsSound}
use Rattle.redo_core.specs.Book.{BookData, roster_of}
use Rattle.redo_core.specs.Learning.{LearnsAdvance}
use Rattle.redo_core.specs.declared.facts.Fact.{Fact}
use Rattle.redo_core.specs.declared.facts.Fact.TheVariants.{Record, Cut, Advance}
use Rattle.redo_core.proofs.FactParts.{record_in, advance_in}
use Rattle.redo_core.proofs.Members.{none_in, here, there, which}
use Rattle.log_theorems.proofs.Meanings.{in_map, from_map}
use Rattle.segment_theorems.specs.State.{State}
use Rattle.segment_theorems.specs.Means.{Means, Matters, IsInImage}
use Rattle.segment_theorems.specs.Known.{IsKnown, Conflicts}
use Rattle.segment_theorems.specs.Learning.{StoresAdvance}
use Rattle.segment_theorems.proofs.Knowing.{takes_known, no_conflict}
use Rattle.segment_theorems.proofs.Learnt.{takes_record, takes_cut, takes_advance}
use Rattle.segment_theorems.proofs.Booked.{epoch_of}
use Rattle.segment_theorems.proofs.Reading.{alive_in_facts}
use Rattle.segment_core.specs.Taking.{Stores}
use Rattle.segment_core.specs.Refusing.{Refuses}
use Rattle.segment_core.specs.declared.answers.Refusal.{Refusal}
use Rattle.segment_core.proofs.Taking.{refuses_conflicts}
use Rattle.segment_core.specs.Exported.{point_facts, exported_facts}
use Rattle.segment_core.specs.InOrder.{TakesOne, TakesEach, RefusesOne}
use Rattle.segment_core.proofs.TakingAll.{IsLate, leaves_one, leaves_all}
use Rattle.segment_core.proofs.ToldFacts.{IsPointIn, listed_cut, listed_advance, listed_record}
use Rattle.epoch_book.proofs.Books.{epoch_grows}

-- ---- lists of facts that are taken
-- no fact is refused, and the next state keeps the property
record Goes (P : State → Type 0) (s : State) (fact : Fact) : Type 0 where
  free : (why : Refusal) → Refuses s fact why → ⊥
  next : (t : State) → TakesOne s fact t → P t

all_go : (P : State → Type 0) (facts : List Fact) → ((fact : Fact) → Contains facts fact → (s : State) → P s → Goes P s fact)
    → (s : State) → P s → ((t : State) → TakesEach s facts t → P t) × ((why : Refusal) → RefusesOne s facts why → ⊥)
all_go P [] goes s h = (λ t e. subst P (sym e) h, λ why r. r)
all_go P (fact ∷ facts) goes s h =
    let one = goes fact (here fact facts) s h in
    let rest = all_go P facts (λ f x. goes f (there fact facts f x)) in (
      λ t takes. (rest takes.0 (one.next takes.0 takes.1)).0 t takes.2,
      λ why r. ⊎_elim
          (λ (x : Refuses s fact why). one.free why x)
          (λ (x : (between : State) × TakesOne s fact between × RefusesOne between facts why). (rest x.0 (one.next x.0 x.1)).1 why x.2)
          r,
    )

-- a refusal is of the first part, or of the second after the first
refused_part : (F G : List Fact) (s : State) (why : Refusal) → RefusesOne s (F ++ G) why
    → RefusesOne s F why ⊎ ((t : State) × TakesEach s F t × RefusesOne t G why)
refused_part [] G s why r = inr (s, refl, r)
refused_part (fact ∷ F) G s why r =
    ⊎_elim
    (λ (x : Refuses s fact why). inl (inl x))
    (λ (x : (between : State) × TakesOne s fact between × RefusesOne between (F ++ G) why). ⊎_elim
    (λ (y : RefusesOne x.0 F why). inl (inr (x.0, x.1, y)))
    (λ (y : (t : State) × TakesEach x.0 F t × RefusesOne t G why). inr (y.0, (x.0, x.1, y.1), y.2))
    (refused_part F G x.0 why x.2))
    r

-- the first part is taken, and then the second
taken_parts : (F G : List Fact) (s t : State) → TakesEach s (F ++ G) t → (u : State) × TakesEach s F u × TakesEach u G t
taken_parts [] G s t takes = (s, refl, takes)
taken_parts (fact ∷ F) G s t takes =
    let rest = taken_parts F G takes.0 t takes.2 in
    (rest.0, (takes.0, takes.1, rest.1), rest.2)

-- a book and records export nothing but what facts of the log, at the position p, have
pub record ReportsPart (roster : ℕ) (log G : List Fact) (p : Position) (b : BookData) (rs : List RecordData) : Type 0 where
  pub part : IsPart G log
  pub position : IsPosition roster G p
  pub complete : IsCompleteEpoch b.cuts b.complete
  pub epoch : b.complete ≡ p.epoch
  pub points : b.points ≡ p.points
  pub cuts : (c : CutData) → Contains b.cuts c → Contains G (Cut c)
  pub waits : (a : AdvanceData) → Contains b.waits a → Contains G (Advance a)
  pub records : (r : RecordData) → Contains rs r → Contains log (Record r)

-- ---- one fact of the log
module _ (roster : ℕ) (log : List Fact) (sound : IsSound roster log) where
  -- the state means a part of the log
  InLog : State → Type 0
  InLog s = (H : List Fact) × Means roster log H s

  late_in : (s : State) → InLog s → IsLate s
  unfolding InLog
  late_in s h =
      let m = h.1.1 in
      record { epoch = epoch_of m; later = λ a w. ((m.book.waits a).0 w).1 }

  -- with a taken fact of the log it means one more
  means_more : (H : List Fact) (s t : State) (fact : Fact) → Means roster log H s → Contains log fact → TakesOne s fact t
      → Means roster log (H ++ fact ∷ []) t
  means_more H s t fact m inside takes =
      ⊎_elim
      (λ (known : IsKnown s fact × (t ≡ s)).
      subst (Means roster log (H ++ fact ∷ [])) (sym known.1) (takes_known s fact known.0 roster log H sound inside m))
      (λ (new : (IsKnown s fact → ⊥) × Stores s fact t). stored fact inside new.1)
      takes.takes
    where
      stored : (f : Fact) → Contains log f → Stores s f t → Means roster log (H ++ f ∷ []) t
      stored (Record r) inside' puts = takes_record s t r puts roster log H sound inside' m
      stored (Cut c) inside' learns = takes_cut s t c learns roster log H sound inside' m
      stored (Advance a) inside' learns = takes_advance s t a learns roster log H sound inside' m

  takes_in : (s t : State) (fact : Fact) → InLog s → Contains log fact → TakesOne s fact t → InLog t
  unfolding InLog
  takes_in s t fact h inside takes = (h.0 ++ fact ∷ [], means_more h.0 s t fact h.1 inside takes)

  -- with each of these records
  means_records : (H : List Fact) (rs : List RecordData) (s t : State) → Means roster log H s → ((r : RecordData) → Contains rs r → Contains log (Record r))
      → TakesEach s (map Record rs) t → Means roster log (H ++ map Record rs) t
  means_records H [] s t m inside takes = subst (λ u. Means roster log (H ++ []) u) (sym takes) (subst (λ G. Means roster log G s) (sym (append-nil H)) m)
  means_records H (r ∷ rs) s t m inside takes =
      subst (λ G. Means roster log G t) (append_assoc H (Record r ∷ []) (map Record rs))
      (means_records (H ++ Record r ∷ []) rs takes.0 t
      (means_more H s takes.0 (Record r) m (inside r (here r rs)) takes.1)
      (λ q h. inside q (there r rs q h)) takes.2)

  goes_in : (s : State) (fact : Fact) → InLog s → Contains log fact → Goes InLog s fact
  unfolding InLog
  goes_in s fact h inside = search (rules, no_conflict, refuses_conflicts, takes_in)

  -- ---- an advance that represents one of the log: of the same reader and point, and of an epoch from that one's on which is complete
  record StandsFor (a b : AdvanceData) : Type 0 where
    inside : Contains log (Advance b)
    epochs : b.epoch ≤ a.epoch
    reader_is : a.reader ≡ b.reader
    point_is : a.point ≡ b.point

  conflicts_as : (s : State) (a b : AdvanceData) → StandsFor a b → Conflicts s (Advance a) → Conflicts s (Advance b)
  conflicts_as s a b f x =
      ⊎_elim
      (λ (no : IsReader (roster_of s.book) a.reader → ⊥). inl (λ r. no (subst (IsReader (roster_of s.book)) (sym f.reader_is) r)))
      (λ (o : (c : CutData) × Contains s.book.cuts c × CutsBelow s.book.complete s.book.points s.book.waits c a). inr (o.0, o.1, cuts_as o.0 o.2))
      x
    where
      cuts_as : (c : CutData) → CutsBelow s.book.complete s.book.points s.book.waits c a → CutsBelow s.book.complete s.book.points s.book.waits c b
      cuts_as c o = (
        (omega (arith, o.0.0, f.epochs), subst (λ p. c.lo < p) f.point_is o.0.1),
        subst (λ i. (roster_of s.book ≡ 1) ⊎ ((s.book.complete < c.epoch) × OthersPast s.book.points s.book.waits c i)) f.reader_is o.1,
      )

  raises_as : (k : ℕ) (old new : List ℕ) (a b : AdvanceData) → StandsFor a b → a.epoch ≤ k → RaisesPoints k old (a ∷ []) new
      → RaisesPoints k old (b ∷ []) new
  raises_as k old new a b f le raises = record {
    count = raises.count;
    each = λ reader r.
        let g = raises.each reader r in (
          ⊎_elim
              (λ (z : point_of new reader ≡ 0). inl z)
              (λ h. inr (⊎_elim
              (λ (e : point_of new reader ≡ point_of old reader). inl e)
              (λ (w : HasAdvance (a ∷ []) k reader (point_of new reader)).
              let e : a ≡ w.0 = one a w.0 w.1 in
              inr (b, here b [], omega (arith, le, f.epochs), sym f.reader_is ∙ ap (λ v. v.reader) e ∙ w.3, sym f.point_is ∙ ap (λ v. v.point) e ∙ w.4))
              h))
              g.0,
          λ n h. g.1 n (⊎_elim
              (λ (e : n ≡ point_of old reader). inl e)
              (λ (w : HasAdvance (b ∷ []) k reader n).
              let e : b ≡ w.0 = one b w.0 w.1 in
              inr (a, here a [], le, f.reader_is ∙ ap (λ v. v.reader) e ∙ w.3, f.point_is ∙ ap (λ v. v.point) e ∙ w.4))
              h),
        );
  }
    where
      one : (v w : AdvanceData) → Contains (v ∷ []) w → v ≡ w
      one v w h = ⊎_elim (λ (e : v ≡ w). e) (λ (x : Contains [] w). absurd (none_in w x)) (which v [] w h)

  learns_as : (old new : BookData) (a b : AdvanceData) → StandsFor a b → a.epoch ≤ old.complete → LearnsAdvance old a new → LearnsAdvance old b new
  learns_as old new a b f le learns =
      let counts = learns.known le in
      record {
        cuts = learns.cuts;
        complete = learns.complete;
        known = λ low. record { points = raises_as old.complete old.points new.points a b f le counts.points; waits = counts.waits };
        later = λ late. absurd (omega (arith, late, le, f.epochs));
      }

  goes_as : (s : State) (a b : AdvanceData) → InLog s → StandsFor a b → a.epoch ≤ s.book.complete → Goes InLog s (Advance a)
  unfolding InLog
  goes_as s a b h f le = record {
    free = λ why r. no_conflict roster log h.0 s (Advance b) sound f.inside h.1 (conflicts_as s a b f (refuses_conflicts s (Advance a) why r));
    next = λ t takes. ⊎_elim
        (λ (known : IsKnown s (Advance a) × (t ≡ s)). (h.0, subst (Means roster log h.0) (sym known.1) h.1))
        (λ (new : (IsKnown s (Advance a) → ⊥) × StoresAdvance s a t).
        let stores : StoresAdvance s b t =
        record { book = learns_as s.book t.book a b f le new.1.book; held = new.1.held; rest = new.1.rest } in
        (h.0 ++ Advance b ∷ [], takes_advance s t b stores roster log h.0 sound f.inside h.1))
        takes.takes;
  }

  -- ---- what a book and records of the log export
  record AreOfLog (b : BookData) (rs : List RecordData) : Type 0 where
    epoch : IsCompleteEpoch b.cuts b.complete
    cuts : (c : CutData) → Contains b.cuts c → Contains log (Cut c)
    waits : (a : AdvanceData) → Contains b.waits a → Contains log (Advance a)
    points : (a : AdvanceData) → IsPointIn b.complete b.points a → (of : AdvanceData) × StandsFor a of
    records : (r : RecordData) → Contains rs r → Contains log (Record r)

  module _ (b : BookData) (rs : List RecordData) (facts : List Fact) (is : facts ≡ exported_facts b rs) (inside : AreOfLog b rs) where
    -- a part of the log, with the book's truncations
    HasCuts : State → Type 0
    HasCuts s = InLog s × ((c : CutData) → Contains b.cuts c → Contains s.book.cuts c)

    goes_told : (fact : Fact) → Contains facts fact → (s : State) → HasCuts s → Goes InLog s fact
    unfolding HasCuts
    goes_told (Cut c) h s x = goes_in s (Cut c) x.0 (inside.cuts c ((listed_cut b rs facts is c).0 h))
    goes_told (Record r) h s x = goes_in s (Record r) x.0 (inside.records r ((listed_record b rs facts is r).0 h))
    goes_told (Advance a) h s x =
        ⊎_elim
        (λ (w : Contains b.waits a). goes_in s (Advance a) x.0 (inside.waits a w))
        (λ (at : IsPointIn b.complete b.points a).
        let of = inside.points a at in
        let up : b.complete ≤ s.book.complete =
        epoch_grows b.cuts s.book.cuts b.complete s.book.complete x.1 inside.epoch (late_in s x.0).epoch in
        goes_as s a of.0 x.0 of.1 (omega (arith, up, at.epoch_is)))
        ((listed_advance b rs facts is a).0 h)

    keeps_cuts : (fact : Fact) → Contains facts fact → (s : State) → HasCuts s → Goes HasCuts s fact
    unfolding HasCuts
    keeps_cuts fact h s x =
        let goes = goes_told fact h s x in
        record {
          free = goes.free;
          next = λ t takes. (goes.next t takes, λ c y. ((leaves_one s fact t (late_in s x.0) takes).cuts c).1 (inl (x.1 c y)));
        }

    first_part : List Fact
    first_part = map Cut b.cuts

    rest_part : List Fact
    rest_part = point_facts b.complete 1 b.points ++ (map Advance b.waits ++ map Record rs)

    cuts_go : (fact : Fact) → Contains first_part fact → (s : State) → InLog s → Goes InLog s fact
    unfolding first_part
    cuts_go fact h s x =
        let u = from_map Cut b.cuts fact h in
        goes_in s fact x (subst (Contains log) u.2 (inside.cuts u.0 u.1))

    after_cuts : (s t : State) → InLog s → TakesEach s first_part t → HasCuts t
    unfolding HasCuts first_part
    after_cuts s t x takes =
        let all = leaves_all s (map Cut b.cuts) t (late_in s x) takes in
        ((all_go InLog first_part cuts_go s x).0 t takes, λ c h. (all.cuts c).1 (inr (in_map Cut b.cuts c h)))

    -- nothing that is exported is refused
    none_refused : (s : State) (why : Refusal) → InLog s → RefusesOne s facts why → ⊥
    unfolding first_part rest_part
    none_refused s why x r =
        ⊎_elim
        (λ (early : RefusesOne s (map Cut b.cuts) why). (all_go InLog first_part cuts_go s x).1 why early)
        (λ (late : (t : State) × TakesEach s (map Cut b.cuts) t × RefusesOne t rest_part why).
        (all_go HasCuts rest_part (λ fact h. keeps_cuts fact (subst (λ fs. Contains fs fact) (sym is)
        (Contains-append_right first_part rest_part fact h))) late.0 (after_cuts s late.0 x late.1)).1 why late.2)
        (refused_part (map Cut b.cuts) rest_part s why (subst (λ fs. RefusesOne s fs why) is r))

    -- the book's facts are taken before the records
    after_book : (s t : State) → InLog s → TakesEach s facts t → (u : State) × InLog u × TakesEach u (map Record rs) t
    unfolding first_part rest_part HasCuts
    after_book s t x takes =
        let points = point_facts b.complete 1 b.points in let waits = map Advance b.waits in
        let one = taken_parts first_part rest_part s t (subst (λ fs. TakesEach s fs t) is takes) in
        let two = taken_parts points (waits ++ map Record rs) one.0 t one.2 in
        let three = taken_parts waits (map Record rs) two.0 t two.2 in
        let in_rest : (fact : Fact) → Contains rest_part fact → Contains facts fact =
        λ fact h. subst (λ fs. Contains fs fact) (sym is) (Contains-append_right first_part rest_part fact h) in
        let pointed : HasCuts two.0 =
        (all_go HasCuts points (λ fact h. keeps_cuts fact (in_rest fact (Contains-append_left points (waits ++ map Record rs) fact h)))
        one.0 (after_cuts s one.0 x one.1)).0 two.0 two.1 in
        let waited : HasCuts three.0 =
        (all_go HasCuts waits (λ fact h. keeps_cuts fact (in_rest fact (Contains-append_right points (waits ++ map Record rs) fact
        (Contains-append_left waits (map Record rs) fact h)))) two.0 pointed).0 three.0 three.1 in
        (three.0, waited.0, three.2)

    -- an exported record that is not dead then is stored, or in its page's image
    kept_of_told : (s t : State) → InLog s → TakesEach s facts t → (r : RecordData) → Contains rs r → Matters t.book.cuts t.book.complete r
        → Contains t.held r ⊎ IsInImage t r
    unfolding InLog
    kept_of_told s t x takes r has mat =
        let u = after_book s t x takes in
        let H = u.1.0 ++ map Record rs in
        let m : Means roster log H t = means_records u.1.0 rs u.0 t u.1.1 inside.records u.2 in
        m.1.kept r ((record_in H r).1 (Contains-append_right u.1.0 (map Record rs) (Record r) (in_map Record rs r has)))
        (⊎_elim
        (λ (w : t.book.complete < r.epoch). inl (omega (arith, w, m.1.epoch)))
        (λ (a : IsAlive t.book.cuts t.book.complete r.epoch r.number). inr ((alive_in_facts log H m.0 t m.1 r.epoch r.number).0 a))
        mat)

  -- each reader's point is that of an advance of the log
  point_of_part : (G : List Fact) (p : Position) (b : BookData) (rs : List RecordData) → ReportsPart roster log G p b rs
      → (a : AdvanceData) → IsPointIn b.complete b.points a → (of : AdvanceData) × StandsFor a of
  point_of_part G p b rs t a at =
      let same : point_of b.points a.reader ≡ point_of p.points a.reader = ap (λ ps. point_of ps a.reader) t.points in
      let count : length b.points ≡ roster = ap length t.points ∙ t.position.points.count in
      ⊎_elim
      (λ (z : point_of p.points a.reader ≡ 0). absurd (omega (arith, z, same, at.point_is, at.above)))
      (λ (of : HasAdvance (advances G) p.epoch a.reader (point_of p.points a.reader)). (
        of.0,
        record {
          inside = t.part (Advance of.0) ((advance_in G of.0).0 of.1);
          epochs = omega (arith, of.2, t.epoch, at.epoch_is);
          reader_is = sym of.3;
          point_is = at.point_is ∙ same ∙ sym of.4;
        },
      ))
      (t.position.points.each a.reader (subst (λ n. IsReader n a.reader) count at.reader)).0

  of_part : (G : List Fact) (p : Position) (b : BookData) (rs : List RecordData) → ReportsPart roster log G p b rs → AreOfLog b rs
  of_part G p b rs t = record {
    epoch = t.complete;
    cuts = λ c h. t.part (Cut c) (t.cuts c h);
    waits = λ a h. t.part (Advance a) (t.waits a h);
    points = point_of_part G p b rs t;
    records = t.records;
  }

  -- nothing that they export is refused
  pub none_of_part : (s : State) (F G : List Fact) (p : Position) (b : BookData) (rs : List RecordData) → Means roster log F s → ReportsPart roster log G p b rs
      → (why : Refusal) → RefusesOne s (exported_facts b rs) why → ⊥
  unfolding InLog
  none_of_part s F G p b rs m t why r = none_refused b rs (exported_facts b rs) refl (of_part G p b rs t) s why (F, m) r

  -- and what they export is kept
  pub kept_of_part : (s t : State) (F G : List Fact) (p : Position) (b : BookData) (rs : List RecordData) → Means roster log F s
      → ReportsPart roster log G p b rs → TakesEach s (exported_facts b rs) t → (r : RecordData) → Contains rs r → Matters t.book.cuts t.book.complete r
      → Contains t.held r ⊎ IsInImage t r
  unfolding InLog
  kept_of_part s t F G p b rs m of takes = kept_of_told b rs (exported_facts b rs) refl (of_part G p b rs of) s t (F, m) takes
