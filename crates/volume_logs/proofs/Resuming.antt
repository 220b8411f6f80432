-- A writer that begins with what a union has goes on from the log.
use Rattle.std.proofs.Common.{◌≡◌, ℕ, suc, ◌<◌, ◌≤◌, ◌⊎◌, ◌↔◌, ⊎_elim, inl, inr, List, [], ◌∷◌, ◌++◌, length, Bool, true, false, map, refl, sym, ◌∙◌, subst, ap, arith}
use Rattle.std.specs.Prelude.{reverse, slice_index}
use Rattle.std.specs.List.{Contains, filter}
use Rattle.std.proofs.lemmas.List.{reverse-append}
use Rattle.std.proofs.lemmas.List.Elements.{Contains-append_left, Contains-append_right, Contains-append_cases, Contains-push, Contains-push_cases}
use Rattle.redo_core.specs.Data.{RecordData, CutData, AdvanceData}
use Rattle.redo_core.specs.Sets.{IsPart, records, cuts, advances}
use Rattle.redo_core.specs.Order.{IsGreatest, IsRising, RecordBefore, BeforeByNumber}
use Rattle.redo_core.specs.CompleteEpoch.{HasCutsTo, IsCompleteEpoch}
use Rattle.redo_core.specs.Standing.{IsAlive}
use Rattle.redo_core.specs.Linked.{IsLinked, IsLinkedRecord}
use Rattle.redo_core.specs.Linked.Linked.{start, next}
use Rattle.redo_core.specs.Roster.{IsReader, least, point_of}
use Rattle.redo_core.specs.Points.{HasAdvance, IsPoint, ArePoints}
use Rattle.redo_core.specs.Sound.{IsSound, counted}
use Rattle.redo_core.specs.declared.facts.Fact.{Fact}
use Rattle.redo_core.specs.declared.facts.Fact.TheVariants.{Record, Cut, Advance}
use Rattle.redo_core.proofs.Members.{none_in, here, there, which, each, all_of, filtered, passed}
use Rattle.redo_core.proofs.FactParts.{record_in, cut_in, advance_in, part_records, part_cuts}
use Rattle.redo_core.proofs.Numbers.{at_greatest}
use Rattle.redo_core.proofs.CompleteEpochs.{has_cuts}
use Rattle.redo_core.proofs.SoundFacts.{kept, counted_in}
use Rattle.log_theorems.proofs.Log.{IsLog, log_of_sound, alive_within}
use Rattle.log_theorems.proofs.Views.{alive_up, later_above, linked_below, anchor_is}
use Rattle.redo_writer.specs.declared.parts.AliveRecord.{AliveRecord}
use Rattle.redo_writer.specs.Tracks.{IsAliveRecord, HasNumber, IsEntryOf, IsNewer, Tracks}
use Rattle.redo_writer.specs.State.{WriterState}
use Rattle.redo_writer.specs.Continues.{Continues}
use Rattle.volume_logs.specs.Histories.{log_to}
use Rattle.volume_logs.specs.Emitting.{LacksAdvances}
use Rattle.redo_writer.specs.Layout.{number_of}
use Rattle.volume_logs.specs.PageLayout.{LeavesNumber, IsPageTop}
use Rattle.redo_writer.specs.Tracks.{entry_of}
use Rattle.volume_logs.specs.Resuming.{IsAliveAbove, IsResumed, ResumedGoesOn}
use Rattle.volume_logs.proofs.Layers.{AllUpTo}
use Rattle.volume_logs.proofs.Epochs.{log_upto, record_epoch}
use Rattle.volume_logs.proofs.PageLayout.{number_fits, page_number, last_number, last_greatest}

-- ---- the log, with the advances that the union has
abbrev is_advance : Fact → Bool
is_advance (Record r) = false
is_advance (Cut c) = false
is_advance (Advance a) = true

abbrev is_other : Fact → Bool
is_other (Record r) = true
is_other (Cut c) = true
is_other (Advance a) = false

abbrev base_of : List Fact → List Fact → List Fact
base_of log union = filter is_other log ++ filter is_advance union

base_cases : (log union : List Fact) (f : Fact) → Contains (base_of log union) f → (Contains log f × (is_other f ≡ true)) ⊎ (Contains union f × (is_advance f ≡ true))
base_cases log union f inside = ⊎_elim
    (λ (h : Contains (filter is_other log) f). inl (filtered is_other log f h))
    (λ (h : Contains (filter is_advance union) f). inr (filtered is_advance union f h))
    (Contains-append_cases (filter is_other log) (filter is_advance union) f inside)

other_in : (log union : List Fact) (f : Fact) → is_other f ≡ true → Contains log f → Contains (base_of log union) f
other_in log union f other inside = Contains-append_left (filter is_other log) (filter is_advance union) f (passed is_other log f other inside)

advance_in_base : (log union : List Fact) (f : Fact) → is_advance f ≡ true → Contains union f → Contains (base_of log union) f
advance_in_base log union f of inside = Contains-append_right (filter is_other log) (filter is_advance union) f (passed is_advance union f of inside)

not_cut : (c : CutData) (f : Fact) → is_advance f ≡ true → Cut c ≡ f → ⊥
not_cut c (Record r) of same = absurd (cc)
not_cut c (Cut d) of same = absurd (cc)
not_cut c (Advance a) of same = absurd (cc)

base_inner : (log union : List Fact) (cut : CutData) → IsPart union (log ++ Cut cut ∷ []) → IsPart (base_of log union) log
base_inner log union cut inner f inside = ⊎_elim
    (λ (old : Contains log f × (is_other f ≡ true)). old.0)
    (λ (new : Contains union f × (is_advance f ≡ true)). ⊎_elim
    (λ (h : Contains log f). h)
    (λ (same : Cut cut ≡ f). absurd (not_cut cut f new.1 same))
    (Contains-push_cases log (Cut cut) f (inner f new.0)))
    (base_cases log union f inside)

base_lacks : (log union : List Fact) (cut : CutData) → IsPart union (log ++ Cut cut ∷ []) → LacksAdvances (base_of log union) log
base_lacks log union cut inner = record {
  inner = base_inner log union cut inner;
  records = λ r inside. other_in log union (Record r) refl inside;
  cuts = λ c inside. other_in log union (Cut c) refl inside;
}

-- the union's facts
union_fact : (log union : List Fact) (f : Fact) → Contains union f → Contains log f → Contains (base_of log union) f
union_fact log union (Record r) had inside = other_in log union (Record r) refl inside
union_fact log union (Cut c) had inside = other_in log union (Cut c) refl inside
union_fact log union (Advance a) had inside = advance_in_base log union (Advance a) refl had

union_inner : (log union : List Fact) (cut : CutData) → IsPart union (log ++ Cut cut ∷ []) → IsPart union (base_of log union ++ Cut cut ∷ [])
union_inner log union cut inner f inside = ⊎_elim
    (λ (old : Contains log f). Contains-append_left (base_of log union) (Cut cut ∷ []) f (union_fact log union f inside old))
    (λ (same : Cut cut ≡ f). subst (λ x. Contains (base_of log union ++ Cut cut ∷ []) x) same (Contains-push (base_of log union) (Cut cut)))
    (Contains-push_cases log (Cut cut) f (inner f inside))

-- ---- entries
in_entries : (rs : List RecordData) (r : RecordData) → Contains rs r → Contains (reverse (map entry_of rs)) (entry_of r)
in_entries [] r inside = absurd (none_in r inside)
in_entries (s ∷ rs) r inside =
    subst (λ xs. Contains xs (entry_of r)) (sym (reverse-append (entry_of s ∷ []) (map entry_of rs)))
    (⊎_elim
    (λ (same : s ≡ r). subst (λ x. Contains (reverse (map entry_of rs) ++ entry_of s ∷ []) (entry_of x)) same
    (Contains-push (reverse (map entry_of rs)) (entry_of s)))
    (λ (rest : Contains rs r). Contains-append_left (reverse (map entry_of rs)) (entry_of s ∷ []) (entry_of r) (in_entries rs r rest))
    (which s rs r inside))

of_entries : (rs : List RecordData) (x : AliveRecord) → Contains (reverse (map entry_of rs)) x → (r : RecordData) × Contains rs r × (entry_of r ≡ x)
of_entries [] x inside = absurd (none_in x inside)
of_entries (s ∷ rs) x inside = ⊎_elim
    (λ (rest : Contains (reverse (map entry_of rs)) x). let y = of_entries rs x rest in (y.0, there s rs y.0 y.1, y.2))
    (λ (same : entry_of s ≡ x). (s, here s rs, same))
    (Contains-push_cases (reverse (map entry_of rs)) (entry_of s) x
    (subst (λ xs. Contains xs x) (reverse-append (entry_of s ∷ []) (map entry_of rs)) inside))

rising_push : (xs : List AliveRecord) (y : AliveRecord) → IsRising IsNewer xs → ((x : AliveRecord) → Contains xs x → IsNewer x y) → IsRising IsNewer (xs ++ y ∷ [])
rising_push [] y rising below = (tt, tt)
rising_push (x ∷ xs) y rising below = (
  all_of (IsNewer x) (xs ++ y ∷ []) (λ z inside. ⊎_elim
      (λ (h : Contains xs z). each (IsNewer x) xs z rising.0 h)
      (λ (same : y ≡ z). subst (IsNewer x) same (below x (here x xs)))
      (Contains-push_cases xs y z inside)),
  rising_push xs y rising.1 (λ z inside. below z (there x xs z inside)),
)

entries_fall : (rs : List RecordData) → IsRising BeforeByNumber rs → IsRising IsNewer (reverse (map entry_of rs))
entries_fall [] rising = tt
entries_fall (r ∷ rs) rising =
    subst (IsRising IsNewer) (sym (reverse-append (entry_of r ∷ []) (map entry_of rs)))
    (rising_push (reverse (map entry_of rs)) (entry_of r) (entries_fall rs rising.1) (λ x inside.
    let y = of_entries rs x inside in
    let above : r.number < y.0.number = each (BeforeByNumber r) rs y.0 rising.0 y.1 in
    let number : y.0.number ≡ x.number = ap (λ (e : AliveRecord). e.number) y.2 in
    omega arith))

-- records of one view that rise by epoch and number rise by number
by_number : {roster : ℕ} (log : List Fact) (k : ℕ) (rs : List RecordData) → IsLog roster log → HasCutsTo (cuts log) k
    → ((r : RecordData) → Contains rs r → IsAlive (cuts log) k r.epoch r.number) → IsRising RecordBefore rs → IsRising BeforeByNumber rs
by_number log k [] is has alive rising = tt
by_number log k (r ∷ rs) is has alive rising = (
  all_of (BeforeByNumber r) rs (λ s inside. ⊎_elim
      (λ (later : r.epoch < s.epoch). later_above log is k has s r (alive s (there r rs s inside)) (alive r (here r rs)) later)
      (λ (same : (r.epoch ≡ s.epoch) × (r.number < s.number)). same.1)
      (each (RecordBefore r) rs s rising.0 inside)),
  by_number log k rs is has (λ s inside. alive s (there r rs s inside)) rising.1,
)

pub linked_record : (facts : List Fact) (k n : ℕ) → IsLinked facts k n → (n ≡ 0) ⊎ ((r : RecordData) × IsLinkedRecord facts k r × (r.number ≡ n))
linked_record facts k n start = inl refl
linked_record facts k n (next r inside alive above linked) =
    inr (r, record { among = inside; alive = alive; linked = next r inside alive above linked }, refl)

-- ---- the writer
module _ (readers : ℕ) (log union : List Fact) (cut : CutData) (k : ℕ) (w : WriterState) (upto : AllUpTo log k) (epoch : cut.epoch ≡ suc k)
    (leaves : (r : RecordData) → Contains log (Record r) → LeavesNumber r) (inner : IsPart union (log ++ Cut cut ∷ []))
    (is : IsResumed readers union cut w) (sound : IsSound readers (base_of log union ++ Cut cut ∷ [])) where
  abbrev All : List Fact
  All = base_of log union ++ Cut cut ∷ []

  all_log : IsLog readers All
  all_log = log_of_sound readers All sound

  inside_all : IsPart union All
  inside_all = union_inner log union cut inner

  in_base : (f : Fact) → Contains All f → Contains log f ⊎ (Cut cut ≡ f)
  in_base f inside = ⊎_elim
      (λ (h : Contains (base_of log union) f). inl (base_inner log union cut inner f h))
      inr
      (Contains-push_cases (base_of log union) (Cut cut) f inside)

  has : HasCutsTo (cuts union) cut.epoch
  has = subst (λ (n : ℕ). HasCutsTo (cuts union) n) is.at (has_cuts (cuts union) is.front.epoch is.position.epoch)

  has_all : HasCutsTo (cuts All) cut.epoch
  has_all e low high = let c = has e low high in (c.0, part_cuts union All inside_all c.0 c.1, c.2)

  cut_in_all : Contains (cuts All) cut
  cut_in_all = (cut_in All cut).1 (Contains-push (base_of log union) (Cut cut))

  cut_upto : (c : CutData) → Contains (cuts All) c → c.epoch ≤ cut.epoch
  cut_upto c inside = ⊎_elim
      (λ (old : Contains log (Cut c)). let low : c.epoch ≤ k = upto (Cut c) old in omega arith)
      (λ (same : Cut cut ≡ Cut c). let itself : cut ≡ c = cc in let at : cut.epoch ≡ c.epoch = ap (λ (d : CutData). d.epoch) itself in omega arith)
      (in_base (Cut c) ((cut_in All c).0 inside))

  cut_of_epoch : (c : CutData) → Contains (cuts All) c → c.epoch ≡ cut.epoch → cut ≡ c
  cut_of_epoch c inside at = all_log.same_cut cut c cut_in_all inside (sym at)

  old_record : (r : RecordData) → Contains (records All) r → Contains log (Record r)
  old_record r inside = ⊎_elim
      (λ (old : Contains log (Record r)). old)
      (λ (same : Cut cut ≡ Record r). absurd (cc))
      (in_base (Record r) ((record_in All r).0 inside))

  complete_linked : IsLinked union cut.epoch is.front.complete
  complete_linked =
      subst (λ (n : ℕ). IsLinked union n is.front.complete) is.at (at_greatest (IsLinked union is.front.epoch) start is.front.complete is.position.complete)

  -- ---- what is alive in the log is linked in the union
  abbrev P : RecordData → Type 0
  P = IsAliveRecord All w.epoch

  to_linked : (r : RecordData) → P r → IsLinkedRecord union cut.epoch r
  to_linked r p =
      let low : r.epoch ≤ k = upto (Record r) (old_record r p.among) in
      let alive : IsAlive (cuts All) cut.epoch r.epoch r.number =
      subst (λ (n : ℕ). IsAlive (cuts All) n r.epoch r.number) is.epoch
      (alive_within (cuts All) (counted All) (λ c h. (counted_in readers All sound c).1 h) w.epoch r.epoch r.number p.alive) in
      let spared : r.number ≤ cut.lo = alive.spared cut cut_in_all (omega arith) (omega arith) in
      let reached : cut.lo ≤ is.front.complete = is.reached in
      linked_below All union all_log inside_all cut.epoch has is.front.complete complete_linked r p.among alive (omega arith)

  of_alive : (r : RecordData) → Contains (records union) r → IsAlive (cuts union) cut.epoch r.epoch r.number → P r
  of_alive r among alive =
      let up : IsAlive (cuts All) cut.epoch r.epoch r.number = alive_up All union all_log inside_all cut.epoch r.epoch r.number has alive in
      record {
        among = part_records union All inside_all r among;
        alive = subst (λ (n : ℕ). IsAlive (counted All) n r.epoch r.number) (sym is.epoch)
            (alive_within (counted All) (cuts All) (λ c h. (counted_in readers All sound c).0 h) cut.epoch r.epoch r.number up);
      }

  of_linked : (r : RecordData) → IsLinkedRecord union cut.epoch r → P r
  of_linked r linked = of_alive r linked.among linked.alive

  low_linked : (r : RecordData) → IsLinkedRecord union cut.epoch r → r.number ≤ cut.lo
  low_linked r linked =
      let low : r.epoch ≤ k = upto (Record r) (old_record r (part_records union All inside_all r linked.among)) in
      let up : IsAlive (cuts All) cut.epoch r.epoch r.number =
      alive_up All union all_log inside_all cut.epoch r.epoch r.number has linked.alive in
      up.spared cut cut_in_all (omega arith) (omega arith)

  anchor : IsLinked union is.front.epoch is.front.anchor × (is.front.anchor ≤ is.front.min)
  anchor = anchor_is {roster = readers} union is.front is.position

  -- ---- entries
  abbrev listed : List RecordData
  listed = is.alive.0

  entry_record : (x : AliveRecord) → Contains w.alive x → (r : RecordData) × Contains listed r × (entry_of r ≡ x)
  entry_record x inside = of_entries listed x (subst (λ xs. Contains xs x) is.alive.2 inside)

  listed_above : (r : RecordData) → Contains listed r → IsAliveAbove union cut.epoch is.front.anchor r
  listed_above r inside = (is.alive.1.members r).0 inside

  entries_falling : IsRising IsNewer w.alive
  entries_falling =
      let alive_all : (r : RecordData) → Contains listed r → IsAlive (cuts All) cut.epoch r.epoch r.number = λ r inside.
      alive_up All union all_log inside_all cut.epoch r.epoch r.number has (listed_above r inside).1 in
      subst (IsRising IsNewer) (sym is.alive.2)
      (entries_fall listed (by_number All cut.epoch listed all_log has_all alive_all is.alive.1.rising))

  page_top : (page : ℕ) → IsGreatest (HasNumber (λ r. P r × (r.page ≡ page))) (slice_index w.page_tops page)
  page_top page =
      let shown : IsPageTop union cut.epoch page cut.lo (slice_index w.page_tops page) = is.tops page in
      let written : List RecordData = shown.1.written in
      let members = shown.1.lists.members in
      let of_log : (r : RecordData) → Contains written r → Contains log (Record r) = λ r inside.
      old_record r (part_records union All inside_all r ((members r).0 inside).0.among) in
      let top : slice_index w.page_tops page ≡ last_number 0 written =
      shown.2 ∙ ap number_of shown.1.result ∙ page_number written (λ r inside. (
        number_fits r (kept readers All (Record r) sound ((record_in All r).0 (part_records union All inside_all r ((members r).0 inside).0.among))).shape,
        leaves r (of_log r inside),
      )) in
      subst (IsGreatest (HasNumber (λ r. P r × (r.page ≡ page)))) (sym top)
      (last_greatest (λ r. P r × (r.page ≡ page)) written shown.1.lists.rising
      (λ r inside. (of_linked r ((members r).0 inside).0, ((members r).0 inside).1))
      (λ r p. let linked : IsLinkedRecord union cut.epoch r = to_linked r p.0 in (members r).1 (linked, p.1, low_linked r linked))
      (λ r p. (all_log.backs r p.0.among).0))

  tracks : Tracks P w.settled w.page_tops w.alive
  tracks = record {
    falls = entries_falling;
    above = λ x inside.
        let y = entry_record x inside in
        let above : is.front.anchor < y.0.number = (listed_above y.0 y.1).2 in
        let number : y.0.number ≡ x.number = ap (λ (e : AliveRecord). e.number) y.2 in
        let settled : w.settled ≡ is.front.anchor = is.settled in
        omega arith;
    each = λ x inside.
        let y = entry_record x inside in
        let had = listed_above y.0 y.1 in
        (y.0, of_alive y.0 had.0 had.1, subst (λ (e : AliveRecord). IsEntryOf e y.0) y.2 (record { number = refl; page = refl; block_back = refl }));
    all = λ r p above.
        let linked : IsLinkedRecord union cut.epoch r = to_linked r p in
        let settled : w.settled ≡ is.front.anchor = is.settled in
        let inside : Contains listed r = (is.alive.1.members r).1 (linked.among, linked.alive, omega arith) in (
          entry_of r,
          subst (λ xs. Contains xs (entry_of r)) (sym is.alive.2) (in_entries listed r inside),
          record { number = refl; page = refl; block_back = refl },
        );
    base = ⊎_elim
        (λ (none : is.front.anchor ≡ 0). inl (is.settled ∙ none))
        (λ (x : (r : RecordData) × IsLinkedRecord union is.front.epoch r × (r.number ≡ is.front.anchor)).
        inr (x.0, of_linked x.0 (subst (λ (n : ℕ). IsLinkedRecord union n x.0) is.at x.1), x.2 ∙ sym is.settled))
        (linked_record union is.front.epoch is.front.anchor anchor.0);
    pages = page_top;
  }

  -- ---- points
  advance_all : (a : AdvanceData) → Contains (advances All) a ↔ Contains (advances union) a
  advance_all a = (
    λ inside. ⊎_elim
        (λ (h : Contains (base_of log union) (Advance a)). ⊎_elim
        (λ (old : Contains log (Advance a) × (is_other (Advance a) ≡ true)). absurd (cc))
        (λ (new : Contains union (Advance a) × (is_advance (Advance a) ≡ true)). (advance_in union a).1 new.0)
        (base_cases log union (Advance a) h))
        (λ (same : Cut cut ≡ Advance a). absurd (cc))
        (Contains-push_cases (base_of log union) (Cut cut) (Advance a) ((advance_in All a).0 inside)),
    λ inside. (advance_in All a).1 (inside_all (Advance a) ((advance_in union a).0 inside)),
  )

  one_point : (reader point : ℕ) → IsPoint (advances union) cut.epoch reader point → IsPoint (advances All) cut.epoch reader point
  one_point reader point of = (
    ⊎_elim inl (λ (h : HasAdvance (advances union) cut.epoch reader point). inr (h.0, (advance_all h.0).1 h.1, h.2, h.3, h.4)) of.0,
    λ m h. of.1 m (h.0, (advance_all h.0).0 h.1, h.2, h.3, h.4),
  )

  all_points : ArePoints (length w.points) (advances All) w.epoch w.points
  all_points =
      let count : length is.front.points ≡ readers = is.position.points.count in
      let of_front : ArePoints (length is.front.points) (advances All) cut.epoch is.front.points = record {
        count = refl;
        each = λ reader among. one_point reader (point_of is.front.points reader)
            (subst (λ (n : ℕ). IsPoint (advances union) n reader (point_of is.front.points reader)) is.at
            (is.position.points.each reader (subst (λ (n : ℕ). IsReader n reader) count among)));
      } in
      subst (λ (n : ℕ). ArePoints (length w.points) (advances All) n w.points) (sym is.epoch)
      (subst (λ xs. ArePoints (length xs) (advances All) cut.epoch xs) (sym is.points) of_front)

  readers_of : length w.points ≡ readers
  readers_of = ap length is.points ∙ is.position.points.count

  complete : IsCompleteEpoch (cuts All) cut.epoch
  complete = (
    inr has_all,
    λ m more. ⊎_elim
        (λ (within : m ≤ cut.epoch). within)
        (λ (over : cut.epoch < m).
        let c = more m (omega arith) (omega arith) in
        let at : c.0.epoch ≡ m = c.2 in
        let low : c.0.epoch ≤ cut.epoch = cut_upto c.0 c.1 in
        absurd (omega arith))
        (let way : (m ≤ cut.epoch) ⊎ (cut.epoch < m) = grind arith in way),
  )

  continues : Continues w All
  continues =
      let own : w.epoch ≡ cut.epoch = is.epoch in
      let last : w.last ≡ cut.hi = is.last in
      record {
        sound = subst (λ (n : ℕ). IsSound n All) (sym readers_of) sound;
        epoch = subst (λ (n : ℕ). IsCompleteEpoch (cuts All) n) (sym own) complete;
        newest = λ c inside. let low : c.epoch ≤ cut.epoch = cut_upto c inside in omega arith;
        last = record {
          numbers = λ r inside at. let low : r.epoch ≤ k = upto (Record r) (old_record r inside) in absurd (omega arith);
          base = λ c inside at. let hi : cut.hi ≡ c.hi = ap (λ (d : CutData). d.hi) (cut_of_epoch c inside (at ∙ own)) in omega arith;
          least = inr (inl (cut, cut_in_all, sym own, sym last));
        };
        points = all_points;
        past = let settled : w.settled ≡ is.front.anchor = is.settled in
            let low : is.front.anchor ≤ is.front.min = anchor.1 in
            let min : is.front.min ≡ least is.front.points = is.position.min in
            let same : least w.points ≡ least is.front.points = ap least is.points in omega arith;
        alive = tracks;
      }

pub resumed_goes_on : ResumedGoesOn
resumed_goes_on run h stop t k union w follows is upto newest inner resumed =
    let log : List Fact = log_to h t k in
    let leaves : (r : RecordData) → Contains log (Record r) → LeavesNumber r = λ r inside.
    let x = record_epoch run h stop is t k r upto inside in
    (is.writers t x.0 (Record r) upto x.3).1.leaves r x.3 in (
      base_of log union,
      base_lacks log union (h.cuts (suc k)) inner,
      record {
        readers_is = ap length resumed.points ∙ resumed.position.points.count;
        continues = λ sound. continues h.readers log union (h.cuts (suc k)) k w (log_upto run h stop is t k upto) (is.epochs (suc k)) leaves inner resumed sound;
      },
    )
