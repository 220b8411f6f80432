-- What the complete point waits for, for arbitrary facts and over a sound log.
use Rattle.std.proofs.Common.{◌≡◌, ℕ, ◌+◌, ◌<◌, ◌≤◌, ◌↔◌, inl, inr, ⊎_elim, List, Option, Some, None, refl, sym, ◌∙◌, ap, subst, arith}
use Rattle.std.specs.List.{Contains}
use Rattle.std.proofs.lemmas.Bool.{cases_lt}
use Rattle.redo_core.specs.Data.{RecordData}
use Rattle.redo_core.specs.Sets.{records, cuts}
use Rattle.redo_core.specs.Order.{IsFirst, BeforeByNumber}
use Rattle.redo_core.specs.CompleteEpoch.{HasCutsTo}
use Rattle.redo_core.specs.Standing.{IsAlive, IsWaiting}
use Rattle.redo_core.specs.Linked.{Linked, IsLinked}
use Rattle.redo_core.specs.Linked.Linked.{start, next}
use Rattle.redo_core.specs.Position.{Position}
use Rattle.redo_core.specs.Sound.{IsSound, KeepsLaws, IsAliveBelow, counted}
use Rattle.redo_core.specs.declared.facts.Fact.{Fact}
use Rattle.redo_core.specs.declared.facts.Fact.TheVariants as fact
use Rattle.redo_core.proofs.FactParts.{record_in, part_records}
use Rattle.redo_core.proofs.SoundFacts.{kept, counted_in}
use Rattle.log_theorems.proofs.Log.{IsLog, log_of_sound, alive_within}
use Rattle.redo_core.proofs.Numbers.{at_greatest}
use Rattle.redo_core.proofs.CompleteEpochs.{has_cuts}
use Rattle.log_theorems.proofs.Views.{alive_up, alive_down, linked_below}
use Rattle.hot_log.specs.Alive.{IsHeldAlive, HasNoneAbove}
use Rattle.hot_log.specs.Gaps.{IsGapAbove, IsAwaited, HasWaiting}
use Rattle.hot_log.proofs.Chain.{Link, link_cases}
use Rattle.hot_log.proofs.Forks.{link_trans}
use Rattle.hot_log.proofs.Hanging.{hangs_one}
use Rattle.hot_log.proofs.Views.{view_of, one_number}
use Rattle.segment_theorems.specs.State.{State}
use Rattle.segment_theorems.specs.Means.{MeansAt, IsInImage}
use Rattle.segment_theorems.specs.HasMeaning.{IsLinkedIn, HasComplete}
use Rattle.segment_theorems.proofs.Chains.{alive_on}
use Rattle.segment_theorems.proofs.Own.{complete_of}
use Rattle.segment_theorems.proofs.Reading.{alive_in_facts}
use Rattle.segment_core.specs.Form.{IsSegment}
use Rattle.segment_core.specs.Gaps.{IsAhead, IsGapOf, IsAliveOf, AllLinked, LacksRecord, LacksTruncation, IsGapAt}
use Rattle.segment_core.specs.declared.answers.Gap.{Gap}
use Rattle.segment_core.specs.declared.answers.Gap.TheVariants.{Record, Truncation}

-- what is alive above the complete point is ahead
ahead_is : (s : State) (complete : ℕ) → HasComplete s complete → (r : RecordData)
    → (IsHeldAlive s.book s.held r × (complete < r.number)) ↔ IsAhead s r
ahead_is s complete top r = (
  λ h. (h.0, λ n l. let up : complete < r.number = h.1 in let low : n ≤ complete = top.1 n l in omega arith),
  λ h. (
    h.0,
    ⊎_elim
        (λ (z : complete ≡ 0). let low : s.base ≤ complete = top.1 s.base start in let up : s.base < r.number = h.1 s.base start in omega arith)
        (λ (l : IsLinkedIn s complete). h.1 complete l)
        top.0,
  ),
)

-- for arbitrary facts

pub gap_record : (s : State) (complete n : ℕ) → HasComplete s complete → IsGapAbove s.book s.held complete (Some n) → IsGapOf s (Some (Record n))
gap_record s complete n top gap =
    let first = gap.0 in
    let ahead = (ahead_is s complete top first).0 gap.1.has in (
      first,
      record { has = ahead; least = λ r h. gap.1.least r ((ahead_is s complete top r).1 h) },
      gap.2,
      λ l.
          let t : first.number < first.number =
          ahead.1 first.number (link_trans s.book.cuts s.held s.book.complete s.base n first.number l gap.2.0) in
          omega arith,
    )

none_ahead : (s : State) (complete : ℕ) → HasComplete s complete → HasNoneAbove s.book s.held complete → (r : RecordData) → IsAhead s r → ⊥
none_ahead s complete top none r h = let t = (ahead_is s complete top r).1 h in none r t.0 t.1

pub gap_truncation : (s : State) (complete epoch : ℕ) → HasComplete s complete → IsGapAbove s.book s.held complete None → IsAwaited s.book s.held (Some epoch)
    → IsGapOf s (Some (Truncation epoch))
gap_truncation s complete epoch top none awaited = (none_ahead s complete top none, awaited.0, awaited.1)

pub gap_none : (s : State) (complete : ℕ) → HasComplete s complete → IsGapAbove s.book s.held complete None → IsAwaited s.book s.held None → IsGapOf s None
gap_none s complete top none awaited = (none_ahead s complete top none, awaited)

-- a state has one gap
first_one : (s : State) (x y : RecordData) → IsFirst BeforeByNumber (IsAhead s) x → IsFirst BeforeByNumber (IsAhead s) y → x ≡ y
first_one s x y f g =
    ⊎_elim
    (λ (e : y ≡ x). sym e)
    (λ (up : x.number < y.number). ⊎_elim
    (λ (e : x ≡ y). e)
    (λ (low : y.number < x.number). absurd (omega arith))
    (g.least x f.has))
    (f.least y g.has)

pub gap_one : (s : State) (o p : Option Gap) → IsSegment s → IsGapOf s o → IsGapOf s p → o ≡ p
gap_one s None None form g h = refl
gap_one s None (Some (Record n)) form g h = absurd (g.0 h.0 h.1.has)
gap_one s None (Some (Truncation epoch)) form g h = absurd (g.1 h.1)
gap_one s (Some (Record m)) None form g h = absurd (h.0 g.0 g.1.has)
gap_one s (Some (Record m)) (Some (Record n)) form g h =
    let linked : Linked s.book.cuts s.held s.book.complete m h.0.number =
    subst (λ (r : RecordData). Linked s.book.cuts s.held s.book.complete m r.number) (first_one s g.0 h.0 g.1 h.1) g.2.0 in
    let same : m ≡ n = hangs_one s.book.cuts s.held s.book.complete (view_of s.book form.book) form.held.rising m n h.0.number linked h.2.0 g.2.1 h.2.1 in
    ap (λ (i : ℕ). let gap : Gap = Record i in Some gap) same
gap_one s (Some (Record m)) (Some (Truncation epoch)) form g h = absurd (h.0 g.0 g.1.has)
gap_one s (Some (Truncation epoch)) None form g h = absurd (h.1 g.1)
gap_one s (Some (Truncation epoch)) (Some (Record n)) form g h = absurd (g.0 h.0 h.1.has)
gap_one s (Some (Truncation a)) (Some (Truncation b)) form g h =
    let same : a ≡ b = g.2 ∙ sym h.2 in ap (λ (i : ℕ). let gap : Gap = Truncation i in Some gap) same

-- over a sound log

module _ {roster : ℕ} (log F : List Fact) (p : Position) (s : State) (sound : IsSound roster log) (m : MeansAt roster log F p s) where
  law : IsLog roster log
  law = log_of_sound roster log sound

  has : HasCutsTo (cuts F) p.epoch
  has = has_cuts (cuts F) p.epoch m.position.epoch

  top : HasComplete s p.complete
  top = complete_of log F p s law m

  linked : IsLinked F p.epoch p.complete
  linked = at_greatest (IsLinked F p.epoch) start p.complete m.position.complete

  -- an alive record of the facts that is above the complete point is stored, and ahead
  held_ahead : (r : RecordData) → IsAliveOf F p r → p.complete < r.number → IsAhead s r
  held_ahead r h up =
      let low : s.base ≤ p.complete = m.position.complete.1 s.base m.base.0 in
      let held : Contains s.held r =
      ⊎_elim (λ (x : Contains s.held r). x) (λ (x : IsInImage s r). let y : r.number ≤ s.base = x.1 in absurd (omega arith))
      (m.kept r h.0 (inr h.1)) in
      (ahead_is s p.complete top r).0 ((held, (alive_in_facts log F p s m r.epoch r.number).1 h.1), up)

  -- a stored record that is ahead is of the facts
  ahead_of : (r : RecordData) → IsAhead s r → IsAliveOf F p r
  ahead_of r h = let a = (alive_in_facts log F p s m r.epoch r.number).0 h.0.1 in (m.of_facts r h.0.0 (inr a), a)

  -- where none is ahead, each is linked
  all_linked : ((r : RecordData) → IsAhead s r → ⊥) → AllLinked F p
  all_linked none r h =
      ⊎_elim
      (λ (up : p.complete < r.number). absurd (none r (held_ahead r h up)))
      (λ (low : r.number ≤ p.complete). (linked_below log F law m.part p.epoch has p.complete linked r (part_records F log m.part r h.0)
      (alive_up log F law m.part p.epoch r.epoch r.number has h.1) low).linked)
      (cases_lt p.complete r.number)

  -- a record that waits is stored
  held_waiting : (r : RecordData) → Contains (records F) r → IsWaiting p.epoch r.epoch → HasWaiting s.book s.held
  held_waiting r h w =
      let later : p.epoch < r.epoch = w in
      let e : s.book.complete ≡ p.epoch = m.epoch in (
        r,
        ⊎_elim (λ (x : Contains s.held r). x) (λ (x : IsInImage s r). let y : r.epoch ≤ s.book.complete = x.0 in absurd (omega arith)) (m.kept r h (inl w)),
        omega arith,
      )

  none_waits : (HasWaiting s.book s.held → ⊥) → (r : RecordData) → Contains (records F) r → IsWaiting p.epoch r.epoch → ⊥
  none_waits none r h w = none (held_waiting r h w)

  module _ (first : RecordData) (n : ℕ) (form : IsSegment s) (is : IsFirst BeforeByNumber (IsAhead s) first)
      (hangs : Linked s.book.cuts s.held s.book.complete n first.number × ((r : RecordData) → IsHeldAlive s.book s.held r → r.number ≡ n → ⊥)) where
    own : IsAliveOf F p first
    own = ahead_of first is.has

    up : p.complete < first.number
    up = ((ahead_is s p.complete top first).1 is.has).1

    in_log : Contains (records log) first
    in_log = part_records F log m.part first own.0

    alive_log : IsAlive (cuts log) p.epoch first.epoch first.number
    alive_log = alive_up log F law m.part p.epoch first.epoch first.number has own.1

    -- its backlink is not linked, or it would be too
    not_linked : IsLinked F p.epoch first.back → ⊥
    not_linked l =
        let t : first.number ≤ p.complete =
        m.position.complete.1 first.number (next first own.0 own.1 (law.backs first in_log).0 l) in
        let u : p.complete < first.number = up in
        omega arith

    -- the log's record that its backlink names
    back : IsAliveBelow log first (λ r. Unit {0}) first.back
    back =
        ⊎_elim
        (λ (z : first.back ≡ 0). absurd (not_linked (subst (IsLinked F p.epoch) (sym z) start)))
        (λ (x : IsAliveBelow log first (λ r. Unit {0}) first.back). x)
        (let t : KeepsLaws roster log ((record_in log first).0 in_log).0 (fact.Record first) = kept roster log (fact.Record first) sound ((record_in log first).0 in_log) in
        t.law3.0)

    alive_back : IsAlive (cuts log) p.epoch back.other.epoch back.other.number
    alive_back =
        let below : first.back < first.number = back.below in
        let e : back.other.number ≡ first.back = back.number in
        alive_on log p.epoch first back.other.epoch back.other.number alive_log
        (alive_within (cuts log) (counted log) (λ d y. (counted_in roster log sound d).1 y) first.epoch back.other.epoch back.other.number back.alive)
        (omega arith)

    above_back : p.complete < first.back
    above_back =
        let e : back.other.number ≡ first.back = back.number in
        ⊎_elim
        (λ (x : p.complete < first.back). x)
        (λ (low : first.back ≤ p.complete).
        absurd (not_linked (subst (IsLinked F p.epoch) e
        (linked_below log F law m.part p.epoch has p.complete linked back.other back.among alive_back (omega arith)).linked)))
        (cases_lt p.complete first.back)

    -- no stored record has the LSN that its backlink names, since none is ahead below it
    none_held : (r : RecordData) → IsHeldAlive s.book s.held r → r.number ≡ first.back → ⊥
    none_held r h e =
        let above : p.complete < first.back = above_back in
        let below : first.back < first.number = back.below in
        let t = is.least r ((ahead_is s p.complete top r).0 (h, omega arith)) in
        ⊎_elim
        (λ (q : r ≡ first). let same : r.number ≡ first.number = ap (λ (x : RecordData). x.number) q in omega arith)
        (λ (q : first.number < r.number). omega arith)
        t

    -- so the record is blocked by its backlink
    hangs_on_back : first.back ≡ n
    hangs_on_back =
        ⊎_elim
        (λ (e : first.number ≡ n). absurd (hangs.1 first is.has.0 e))
        (λ (u : Link s.book.cuts s.held s.book.complete n first.number).
        let same : u.by ≡ first = one_number s.book.cuts s.book.complete s.held (view_of s.book form.book) form.held.rising u.by first u.among is.has.0.0 u.alive is.has.0.1 u.at in
        ⊎_elim
        (λ (e : first.back ≡ n). e)
        (λ (w : Link s.book.cuts s.held s.book.complete n first.back). absurd (none_held w.by (w.among, w.alive) w.at))
        (link_cases s.book.cuts s.held s.book.complete n first.back (subst (λ (x : RecordData). Linked s.book.cuts s.held s.book.complete n x.back) same u.back)))
        (link_cases s.book.cuts s.held s.book.complete n first.number hangs.0)

    not_of_facts : Contains (records F) back.other → ⊥
    not_of_facts h =
        let e : back.other.number ≡ first.back = back.number in
        let above : p.complete < first.back = above_back in
        let ahead = held_ahead back.other (h, alive_down log F m.part p.epoch back.other.epoch back.other.number alive_back) (omega arith) in
        none_held back.other ahead.0 e

    lacks_record : LacksRecord log F p n
    lacks_record =
        let e : first.back ≡ n = hangs_on_back in
        let at : back.other.number ≡ first.back = back.number in
        let above : p.complete < first.back = above_back in
        let below : first.back < first.number = back.below in
        record {
          missing = back.other;
          of_log = back.among;
          not_of_facts = not_of_facts;
          alive = alive_down log F m.part p.epoch back.other.epoch back.other.number alive_back;
          number = omega arith;
          above = omega arith;
          named = (first, own, e);
          next = λ r h over.
              ⊎_elim
              (λ (q : r ≡ first). let same : r.number ≡ first.number = ap (λ (x : RecordData). x.number) q in omega arith)
              (λ (q : first.number < r.number). omega arith)
              (is.least r (held_ahead r h over));
        }

  -- where a record waits, the log has the truncation of the next epoch
  lacks_truncation : ((r : RecordData) → IsAhead s r → ⊥) → HasWaiting s.book s.held → (epoch : ℕ) → epoch ≡ s.book.complete + 1
      → LacksTruncation log F p epoch
  lacks_truncation none waiting epoch is =
      let e : s.book.complete ≡ p.epoch = m.epoch in
      let later : s.book.complete < waiting.0.epoch = waiting.2 in
      let w : p.epoch < waiting.0.epoch = omega arith in
      let of_facts : Contains (records F) waiting.0 = m.of_facts waiting.0 waiting.1 (inl w) in
      let at : epoch ≡ p.epoch + 1 = omega arith in
      record {
        linked = all_linked none;
        waiting = (waiting.0, of_facts, w);
        next = at;
        of_log = law.has_cuts waiting.0 (part_records F log m.part waiting.0 of_facts) epoch (omega arith) (omega arith);
        missing = λ d h q.
            let more : HasCutsTo (cuts F) (p.epoch + 1) =
            λ i low high. ⊎_elim
            (λ (x : p.epoch < i). let y : d.epoch ≡ i = omega arith in (d, h, y))
            (λ (x : i ≤ p.epoch). has i low x)
            (cases_lt p.epoch i) in
            let t : p.epoch + 1 ≤ p.epoch = m.position.epoch.1 (p.epoch + 1) more in
            omega arith;
      }

  true_gap : (o : Option Gap) → IsSegment s → IsGapOf s o → IsGapAt log F p o
  true_gap (Some (Record n)) form h = lacks_record h.0 n form h.1 h.2
  true_gap (Some (Truncation epoch)) form h = lacks_truncation h.0 h.1 epoch h.2
  true_gap None form h = (all_linked h.0, none_waits h.1)

pub gap_law : (s : State) (o : Option Gap) → IsSegment s → IsGapOf s o → (roster : ℕ) (log F : List Fact) (p : Position) → IsSound roster log
    → MeansAt roster log F p s → IsGapAt log F p o
gap_law s o form h roster log F p sound m = true_gap log F p s sound m o form h
