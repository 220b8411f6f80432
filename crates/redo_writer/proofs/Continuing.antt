-- A writer that continues a log continues the longer log.
use Rattle.std.proofs.Common.{◌≡◌, ◌≢◌, ℕ, ◌+◌, ◌-◌, max, replicate, ◌<◌, ◌≤◌, ◌⊎◌, inl, inr, ⊎_elim, List, [], ◌∷◌, ◌++◌, length, refl, sym, ap, ◌∙◌, subst, arith, None}
use Rattle.std.specs.Prelude.{slice_index}
use Rattle.std.specs.List.{Contains}
use Rattle.std.proofs.lemmas.Bool.{cases_lt, cases_eq}
use Rattle.std.proofs.lemmas.List.{get_or-replicate, length-replicate}
use Rattle.std.proofs.lemmas.Option.{none-some}
use Rattle.redo_core.specs.Data.{RecordData, CutData, AdvanceData}
use Rattle.std.specs.Prelude.{Bool}
use Rattle.std.proofs.lemmas.Bool.Decides.{nat_tests}
use Rattle.redo_core.specs.Data.{record_with}
use Rattle.redo_core.specs.declared.patches.Patch.{Patch}
use Rattle.redo_writer.specs.Refusals.{contents_fault}
use Rattle.redo_core.specs.Shape.{cut_fault, record_fault}
use Rattle.redo_core.specs.Sets.{records, cuts, advances}
use Rattle.redo_core.specs.Roster.{IsRoster, IsReader, least, point_of}
use Rattle.redo_core.specs.Points.{HasAdvance, IsPoint, ArePoints}
use Rattle.redo_core.specs.Past.{ArePast}
use Rattle.redo_core.specs.Order.{IsGreatest}
use Rattle.redo_core.specs.Standing.{IsAlive}
use Rattle.redo_core.specs.CompleteEpoch.{HasCutsTo, IsCompleteEpoch}
use Rattle.redo_core.specs.Sound.{counted, HasShape, Law1, IsSound, IsAliveBelow}
use Rattle.redo_core.specs.declared.facts.Fact.{Fact}
use Rattle.redo_core.specs.declared.facts.Fact.TheVariants.{Record, Cut, Advance}
use Rattle.redo_core.proofs.Members.{none_in}
use Rattle.redo_core.proofs.FactParts.{record_in, cut_in, advance_in}
use Rattle.redo_core.proofs.SoundFacts.{kept, cut_facts, counted_in}
use Rattle.redo_core.proofs.CompleteEpochs.{has_cuts}
use Rattle.redo_core.proofs.Points.{least_ge, least_mono}
use Rattle.log_law.proofs.FirstCuts.{counted_among}
use Rattle.log_law.proofs.Lengthened.{record_cases, record_longer, record_last, cut_cases, cut_longer, cut_last, advance_cases, advance_longer, advance_last, counted_cases, counted_longer, KeepsRest, sound_push, Extends, extends_other, extends_cut, alive_longer, alive_shorter, has_cuts_longer, record_keeps, advance_keeps}
use Rattle.log_law.proofs.Repeats.{cut_eq, law1_advance}
use Rattle.redo_writer.specs.declared.parts.AliveRecord.{AliveRecord}
use Rattle.redo_writer.specs.Tracks.{IsAliveRecord, HasNumber, IsEntryOf, newest_number, Tracks, LinksPages, PutsTop}
use Rattle.redo_writer.specs.State.{WriterState, state_with, empty_writer}
use Rattle.redo_writer.specs.Continues.{Continues}
use Rattle.redo_writer.proofs.Tracking.{tracked_as, entered, newest_greatest, nothing_tracked}

-- what a sound log says of its epochs
pub within : {roster : ℕ} (log : List Fact) (k : ℕ) → IsSound roster log → ((c : CutData) → Contains (cuts log) c → c.epoch ≤ k) → (r : RecordData)
    → Contains (records log) r → r.epoch ≤ k
within {roster} log k sound newest r h = ⊎_elim
    (λ (e : r.epoch ≡ 0). omega arith)
    (λ (e : r.epoch ≢ 0). let c = (kept roster log (Record r) sound ((record_in log r).0 h)).law2.0 r.epoch (omega arith) (omega arith) in
    let l : c.0.epoch ≤ k = newest c.0 (counted_among log c.0 c.1) in let n : c.0.epoch ≡ r.epoch = c.2 in omega arith)
    (cases_eq r.epoch 0)

pub given_within : {roster : ℕ} (log : List Fact) (k : ℕ) → IsSound roster log → ((c : CutData) → Contains (cuts log) c → c.epoch ≤ k) → (a : AdvanceData)
    → Contains (advances log) a → a.epoch ≤ k
given_within {roster} log k sound newest a h = ⊎_elim
    (λ (e : a.epoch ≡ 0). omega arith)
    (λ (e : a.epoch ≢ 0). let c = (kept roster log (Advance a) sound ((advance_in log a).0 h)).law5.1 a.epoch (omega arith) (omega arith) in
    let l : c.0.epoch ≤ k = newest c.0 (counted_among log c.0 c.1) in let n : c.0.epoch ≡ a.epoch = c.2 in omega arith)
    (cases_eq a.epoch 0)

begun : (w : WriterState) (log : List Fact) → Continues w log → HasCutsTo (counted log) w.epoch
begun w log g e l m = let c = has_cuts (cuts log) w.epoch g.epoch e l m in (c.0, (counted_in (length w.points) log g.sound c.0).1 c.1, c.2)

ordered : (w : WriterState) (log : List Fact) → Continues w log → (c : CutData) → Contains (counted log) c → c.lo ≤ c.hi
ordered w log g c h = (cut_facts c (kept (length w.points) log (Cut c) g.sound ((cut_in log c).0 (counted_among log c h))).shape).1

-- what is alive is not above the last number
alive_at_most : (w : WriterState) (log : List Fact) → Continues w log → (r : RecordData) → IsAliveRecord log w.epoch r → r.number ≤ w.last
alive_at_most w log g r p =
    let known : r.epoch ≤ w.epoch = p.alive.known in
    ⊎_elim
    (λ (e : r.epoch ≡ w.epoch). g.last.numbers r p.among e)
    (λ (e : r.epoch ≢ w.epoch).
    let c = begun w log g w.epoch (omega arith) (omega arith) in
    let ce : c.0.epoch ≡ w.epoch = c.2 in
    let a : r.number ≤ c.0.lo = p.alive.spared c.0 c.1 (omega arith) (omega arith) in
    let b : c.0.lo ≤ c.0.hi = ordered w log g c.0 c.1 in
    let d : c.0.hi ≤ w.last = g.last.base c.0 (counted_among log c.0 c.1) ce in
    omega arith)
    (cases_eq r.epoch w.epoch)

-- block backlinks say the same in each later view
pub pages_linked : (w : WriterState) (log : List Fact) → Continues w log → LinksPages (IsAliveRecord log w.epoch)
pages_linked w log g r p =
    let law = (kept (length w.points) log (Record r) g.sound ((record_in log r).0 p.among)).law4 in (
      ⊎_elim inl (λ (b : IsAliveBelow log r (λ s. s.page ≡ r.page) r.block_back). inr (
        b.other,
        (
          record { among = b.among; alive = up b },
          b.only,
          (
              let n : b.other.number ≡ r.block_back = b.number in let l : r.block_back < r.number = b.below in omega arith),
        ),
        b.number,
      )) law.0,
      λ m h. let n : h.0.number ≡ m = h.2 in let l : h.0.number < r.number = h.1.2 in
          law.1 m (record {
            other = h.0;
            among = h.1.0.among;
            alive = down h.0 h.1.0 h.1.2;
            only = h.1.1;
            number = h.2;
            below = omega arith;
          }),
    )
  where
    up : {Only : RecordData → Type 0} {n : ℕ} → (b : IsAliveBelow log r Only n) → IsAlive (counted log) w.epoch b.other.epoch b.other.number
    up b = record {
      known = (let l : b.other.epoch ≤ r.epoch = b.alive.known in let m : r.epoch ≤ w.epoch = p.alive.known in omega arith);
      begun = b.alive.begun;
      spared = λ c h later upto. ⊎_elim
          (λ (l : r.epoch < c.epoch). let a : r.number ≤ c.lo = p.alive.spared c h l upto in let n' = b.number in let l' = b.below in omega arith)
          (λ (l : c.epoch ≤ r.epoch). b.alive.spared c h later l)
          (cases_lt r.epoch c.epoch);
    }

    down : (s : RecordData) → IsAliveRecord log w.epoch s → s.number < r.number → IsAlive (counted log) r.epoch s.epoch s.number
    down s q l = record {
      known = ⊎_elim
          (λ (m : r.epoch < s.epoch).
          let law = (kept (length w.points) log (Record s) g.sound ((record_in log s).0 q.among)).law2 in
          let c = law.0 s.epoch (omega arith) (omega arith) in
          let ce : c.0.epoch ≡ s.epoch = c.2 in
          let ks : s.epoch ≤ w.epoch = q.alive.known in
          let a : c.0.hi < s.number = q.alive.begun c.0 c.1 ce in
          let b : c.0.lo ≤ c.0.hi = ordered w log g c.0 c.1 in
          let d : r.number ≤ c.0.lo = p.alive.spared c.0 c.1 (omega arith) (omega arith) in
          absurd (omega arith))
          (λ (m : s.epoch ≤ r.epoch). m)
          (cases_lt r.epoch s.epoch);
      begun = q.alive.begun;
      spared = λ c h later upto. q.alive.spared c h later (let m : r.epoch ≤ w.epoch = p.alive.known in omega arith);
    }

-- the backlinks of the next record have the right order
pub back_order : (w : WriterState) (log : List Fact) → Continues w log → (page : ℕ) → slice_index w.page_tops page ≤ newest_number w.settled w.alive
back_order w log g page =
    let top = newest_greatest (IsAliveRecord log w.epoch) w.settled w.page_tops w.alive g.alive in
    ⊎_elim
    (λ (e : slice_index w.page_tops page ≡ 0). omega arith)
    (λ (h : HasNumber (λ r. IsAliveRecord log w.epoch r × (r.page ≡ page)) (slice_index w.page_tops page)).
    top.1 (slice_index w.page_tops page) (h.0, h.1.0, h.2))
    (g.alive.pages page).0

pub back_below : (w : WriterState) (log : List Fact) → Continues w log → newest_number w.settled w.alive ≤ w.last
back_below w log g = ⊎_elim
    (λ (e : newest_number w.settled w.alive ≡ 0). omega arith)
    (λ (h : HasNumber (IsAliveRecord log w.epoch) (newest_number w.settled w.alive)). let l : h.0.number ≤ w.last = alive_at_most w log g h.0 h.1 in
    let e : h.0.number ≡ newest_number w.settled w.alive = h.2 in omega arith)
    (newest_greatest (IsAliveRecord log w.epoch) w.settled w.page_tops w.alive g.alive).0

-- backlinks in order are no fault
pub contents_alone : (e n b p bb : ℕ) (i : Bool) (patches : List Patch) → b < n → bb ≤ b → record_fault (record_with e n b p bb i patches) ≡ contents_fault n patches
contents_alone e n b p bb i patches below le = grind (arith, nat_tests)

-- the points where no advance came
points_kept : {roster : ℕ} (log : List Fact) (f : Fact) (k j : ℕ) (points : List ℕ) → k ≤ j → ((a : AdvanceData) → Contains (advances log) a → a.epoch ≤ k)
    → ((a : AdvanceData) → f ≡ Advance a → ⊥) → ArePoints roster (advances log) k points → ArePoints roster (advances (log ++ f ∷ [])) j points
points_kept log f k j points l given other p = record {
  count = p.count;
  each = λ reader r. (
    ⊎_elim inl (λ (h : HasAdvance (advances log) k reader (point_of points reader)). inr (
      h.0,
      advance_longer log f h.0 h.1,
      (let m : h.0.epoch ≤ k = h.2 in
          omega arith),
      h.3,
      h.4,
    )) (p.each reader r).0,
    λ m h. let i : Contains (advances log) h.0 = ⊎_elim (λ (i : Contains (advances log) h.0). i) (λ (e : f ≡ Advance h.0). absurd (other h.0 e))
        (advance_cases log f h.0 h.1) in
        (p.each reader r).1 m (h.0, i, given h.0 i, h.3, h.4),
  );
}

-- one more record
extends_record : (w : WriterState) (log : List Fact) → Continues w log → (r : RecordData) → Extends (length w.points) log (log ++ Record r ∷ []) w.epoch
extends_record w log g r = extends_other log (Record r) w.epoch (λ c e. absurd (cc)) (λ d h. g.newest d (counted_among log d h)) (λ b e. absurd (cc))

same_last : (log : List Fact) (r o : RecordData) → Contains (records (log ++ Record r ∷ [])) o → Contains (records log) o ⊎ (r ≡ o)
same_last log r o h = ⊎_elim inl (λ (e : Record r ≡ Record o). let s : r ≡ o = cc in inr s) (record_cases log (Record r) o h)

record_rest_of : (w : WriterState) (log : List Fact) → Continues w log → (r : RecordData) → r.epoch ≡ w.epoch → w.last < r.number → (f : Fact)
    → Contains log f → KeepsRest (length w.points) log f → KeepsRest (length w.points) (log ++ Record r ∷ []) f
record_rest_of w log g r ep above (Record q) h k =
    let hq = (record_in log q).1 h in
    let l : q.epoch ≤ w.epoch = within log w.epoch g.sound g.newest q hq in
    record_keeps log (log ++ Record r ∷ []) w.epoch q (extends_record w log g r) (λ o m. record_longer log (Record r) o m)
    (λ o m a below. ⊎_elim
    (λ (i : Contains (records log) o). i)
    (λ (e : r ≡ o).
    let known : o.epoch ≤ q.epoch = a.known in
    let oe : r.epoch ≡ o.epoch = ap (λ (y : RecordData). y.epoch) e in
    let on : r.number ≡ o.number = ap (λ (y : RecordData). y.number) e in
    let top : q.number ≤ w.last = g.last.numbers q hq (omega arith) in
    absurd (omega arith))
    (same_last log r o m)) l k
record_rest_of w log g r ep above (Cut c) h k = (tt, tt, tt, tt)
record_rest_of w log g r ep above (Advance a) h k = advance_keeps log (log ++ Record r ∷ []) w.epoch a (extends_record w log g r) k

record_law1 : (w : WriterState) (log : List Fact) → Continues w log → (r : RecordData) → r.epoch ≡ w.epoch → w.last < r.number → Law1 log (Record r)
record_law1 w log g r ep above (Record q) h k =
    absurd (let m : q.number ≤ w.last = g.last.numbers q ((record_in log q).1 h) (k.0 ∙ ep) in let n : q.number ≡ r.number = k.1 in omega arith)
record_law1 w log g r ep above (Cut c) h k = absurd k
record_law1 w log g r ep above (Advance a) h k = absurd k

-- the alive records of the longer log
record_alive_up : (w : WriterState) (log : List Fact) → Continues w log → (r s : RecordData) → IsAliveRecord log w.epoch s
    → IsAliveRecord (log ++ Record r ∷ []) w.epoch s
record_alive_up w log g r s p = record {
  among = record_longer log (Record r) s p.among;
  alive = alive_longer log (log ++ Record r ∷ []) w.epoch w.epoch s.epoch s.number (extends_record w log g r) (omega arith) p.alive;
}

record_alive_down : (w : WriterState) (log : List Fact) → Continues w log → (r s : RecordData) → IsAliveRecord (log ++ Record r ∷ []) w.epoch s
    → IsAliveRecord log w.epoch s ⊎ (r ≡ s)
record_alive_down w log g r s p = ⊎_elim
    (λ (i : Contains (records log) s). inl (record {
      among = i;
      alive = alive_shorter log (log ++ Record r ∷ []) w.epoch w.epoch s.epoch s.number (extends_record w log g r) p.alive;
    }))
    inr
    (same_last log r s p.among)

-- laws 3 and 4 of the last record, by what the writer tracks
link_law : (w : WriterState) (log : List Fact) → Continues w log → (r : RecordData) (Only : RecordData → Type 0) (n : ℕ) → r.epoch ≡ w.epoch → w.last < r.number
    → IsGreatest (HasNumber (λ s. IsAliveRecord log w.epoch s × Only s)) n → IsGreatest (IsAliveBelow (log ++ Record r ∷ []) r Only) n
link_law w log g r Only n ep above h = (
  ⊎_elim inl (λ (p : HasNumber (λ s. IsAliveRecord log w.epoch s × Only s) n).
      let q = record_alive_up w log g r p.0 p.1.0 in
      let l : p.0.number ≤ w.last = alive_at_most w log g p.0 p.1.0 in
      let e : p.0.number ≡ n = p.2 in
      inr (record {
        other = p.0;
        among = q.among;
        alive = subst (λ k. IsAlive (counted (log ++ Record r ∷ [])) k p.0.epoch p.0.number) (sym ep) q.alive;
        only = p.1.1;
        number = p.2;
        below = omega arith;
      })) h.0,
  λ m b.
      let e : b.other.number ≡ m = b.number in let l : m < r.number = b.below in
      let q : IsAliveRecord (log ++ Record r ∷ []) w.epoch b.other = record {
        among = b.among;
        alive = subst (λ k. IsAlive (counted (log ++ Record r ∷ [])) k b.other.epoch b.other.number) ep b.alive;
      } in
      ⊎_elim
      (λ (p : IsAliveRecord log w.epoch b.other). h.1 m (b.other, (p, b.only), b.number))
      (λ (s : r ≡ b.other). absurd (let d : r.number ≡ b.other.number = ap (λ (y : RecordData). y.number) s in omega arith))
      (record_alive_down w log g r b.other q),
)

last_alive : (w : WriterState) (log : List Fact) → Continues w log → (r : RecordData) → r.epoch ≡ w.epoch → w.last < r.number
    → IsAliveRecord (log ++ Record r ∷ []) w.epoch r
last_alive w log g r ep above = record {
  among = record_last log r;
  alive = record {
    known = omega arith;
    begun = λ c h e. let i : Contains (counted log) c = (extends_record w log g r).down c h (omega arith) in
        let l : c.hi ≤ w.last = g.last.base c (counted_among log c i) (e ∙ ep) in omega arith;
    spared = λ c h l m. absurd (omega arith);
  };
}

record_sound : (w : WriterState) (log : List Fact) → Continues w log → (r : RecordData) → HasShape (Record r) → r.epoch ≡ w.epoch → w.last < r.number
    → r.back ≡ newest_number w.settled w.alive → r.block_back ≡ slice_index w.page_tops r.page → IsSound (length w.points) (log ++ Record r ∷ [])
record_sound w log g r shape ep above eb ec =
    let x = extends_record w log g r in
    let top = newest_greatest (IsAliveRecord log w.epoch) w.settled w.page_tops w.alive g.alive in
    let three : IsGreatest (HasNumber (λ s. IsAliveRecord log w.epoch s × Unit {0})) r.back = subst
    (IsGreatest (HasNumber (λ s. IsAliveRecord log w.epoch s × Unit {0}))) (sym eb)
    (⊎_elim inl (λ (p : HasNumber (IsAliveRecord log w.epoch) (newest_number w.settled w.alive)). inr (p.0, (p.1, tt), p.2)) top.0, λ m p. top.1 m (p.0, p.1.0, p.2)) in
    let four : IsGreatest (HasNumber (λ s. IsAliveRecord log w.epoch s × (s.page ≡ r.page))) r.block_back = subst
    (IsGreatest (HasNumber (λ s. IsAliveRecord log w.epoch s × (s.page ≡ r.page)))) (sym ec) (g.alive.pages r.page) in
    sound_push log (Record r) g.sound (record_rest_of w log g r ep above) shape (record_law1 w log g r ep above) (
      (
        subst (HasCutsTo (counted (log ++ Record r ∷ []))) (sym ep) (has_cuts_longer log (log ++ Record r ∷ []) w.epoch w.epoch x (begun w log g)),
        λ c h e. let i : Contains (counted log) c = x.down c h (omega arith) in let l : c.hi ≤ w.last = g.last.base c (counted_among log c i) (e ∙ ep) in omega arith,
      ),
      link_law w log g r (λ s. Unit {0}) r.back ep above three,
      link_law w log g r (λ s. s.page ≡ r.page) r.block_back ep above four,
      tt,
    )

epoch_kept : (log : List Fact) (f : Fact) (k : ℕ) → ((c : CutData) → f ≡ Cut c → ⊥) → IsCompleteEpoch (cuts log) k → IsCompleteEpoch (cuts (log ++ f ∷ [])) k
epoch_kept log f k other h = (
  ⊎_elim inl (λ (p : HasCutsTo (cuts log) k). inr (λ e l m. let c = p e l m in (c.0, cut_longer log f c.0 c.1, c.2))) h.0,
  λ m p. h.1 m (λ e l n. let c = p e l n in (c.0, old c.0 c.1, c.2)),
)
  where
    old : (c : CutData) → Contains (cuts (log ++ f ∷ [])) c → Contains (cuts log) c
    old c i = ⊎_elim (λ (j : Contains (cuts log) c). j) (λ (e : f ≡ Cut c). absurd (other c e)) (cut_cases log f c i)

pub continues_record : (w : WriterState) (log : List Fact) (r : RecordData) (x : AliveRecord) (tops : List ℕ) → Continues w log → HasShape (Record r)
    → r.epoch ≡ w.epoch → w.last < r.number → r.back ≡ newest_number w.settled w.alive → r.block_back ≡ slice_index w.page_tops r.page → IsEntryOf x r
    → PutsTop x.page x.number w.page_tops tops
    → Continues (state_with w.epoch r.number w.points tops w.settled (x ∷ w.alive)) (log ++ Record r ∷ [])
continues_record w log r x tops g shape ep above eb ec entry puts = record {
  sound = record_sound w log g r shape ep above eb ec;
  epoch = epoch_kept log (Record r) w.epoch (λ c e. absurd (cc)) g.epoch;
  newest = λ c h. ⊎_elim (g.newest c) (λ (e : Record r ≡ Cut c). absurd (cc)) (cut_cases log (Record r) c h);
  last = record {
    numbers = λ q h n. ⊎_elim (λ (m : Contains (records log) q). let l : q.number ≤ w.last = g.last.numbers q m n in omega arith)
        (λ (e : r ≡ q). let o : r.number ≡ q.number = ap (λ (y : RecordData). y.number) e in omega arith) (same_last log r q h);
    base = λ c h n. ⊎_elim (λ (m : Contains (cuts log) c). let l : c.hi ≤ w.last = g.last.base c m n in omega arith) (λ (e : Record r ≡ Cut c). absurd (cc))
        (cut_cases log (Record r) c h);
    least = inl (r, record_last log r, ep, refl);
  };
  points = points_kept log (Record r) w.epoch w.epoch w.points (omega arith) (given_within log w.epoch g.sound g.newest) (λ a e. absurd (cc)) g.points;
  past = g.past;
  alive = entered (IsAliveRecord log w.epoch) (IsAliveRecord (log ++ Record r ∷ []) w.epoch) w.settled w.page_tops tops x w.alive r
      (record_alive_up w log g r) (record_alive_down w log g r) (last_alive w log g r ep above) entry (omega arith)
      (λ s p. let l : s.number ≤ w.last = alive_at_most w log g s p in omega arith) puts g.alive;
}

-- one more truncation
cut_free : (w : WriterState) (log : List Fact) → Continues w log → (c : CutData) → least w.points ≤ c.lo → ArePast (length w.points) (advances log) c → ⊥
cut_free w log g c low past =
    let up : c.lo + 1 ≤ least w.points = least_ge (length w.points) w.points (c.lo + 1) refl g.sound.readers.0 (λ reader r.
    let s = past reader r in
    let t : s.0.point ≤ point_of w.points reader = (g.points.each reader r).1 s.0.point
    (s.0, s.1, given_within log w.epoch g.sound g.newest s.0 s.1, s.2, refl) in
    let u : c.lo < s.0.point = s.4 in
    omega arith) in
    omega arith

extends_next : (w : WriterState) (log : List Fact) → Continues w log → (c : CutData) → c.epoch ≡ w.epoch + 1 → least w.points ≤ c.lo
    → Extends (length w.points) log (log ++ Cut c ∷ []) w.epoch
extends_next w log g c ep low = extends_cut log c w.epoch (omega arith) (cut_free w log g c low)

cut_rest_of : (w : WriterState) (log : List Fact) → Continues w log → (c : CutData) → c.epoch ≡ w.epoch + 1 → least w.points ≤ c.lo → (f : Fact)
    → Contains log f → KeepsRest (length w.points) log f → KeepsRest (length w.points) (log ++ Cut c ∷ []) f
cut_rest_of w log g c ep low (Record q) h k =
    let hq = (record_in log q).1 h in
    record_keeps log (log ++ Cut c ∷ []) w.epoch q (extends_next w log g c ep low) (λ o m. record_longer log (Cut c) o m)
    (λ o m a below. ⊎_elim (λ (i : Contains (records log) o). i) (λ (e : Cut c ≡ Record o). absurd (cc)) (record_cases log (Cut c) o m))
    (within log w.epoch g.sound g.newest q hq) k
cut_rest_of w log g c ep low (Cut d) h k = (tt, tt, tt, tt)
cut_rest_of w log g c ep low (Advance a) h k = advance_keeps log (log ++ Cut c ∷ []) w.epoch a (extends_next w log g c ep low) k

cut_law1 : (w : WriterState) (log : List Fact) → Continues w log → (c : CutData) → c.epoch ≡ w.epoch + 1 → Law1 log (Cut c)
cut_law1 w log g c ep (Record q) h k = absurd k
cut_law1 w log g c ep (Cut d) h k =
    absurd (let l : d.epoch ≤ w.epoch = g.newest d ((cut_in log d).1 h) in let e : d.epoch ≡ c.epoch = k in omega arith)
cut_law1 w log g c ep (Advance a) h k = absurd k

cut_sound : (w : WriterState) (log : List Fact) → Continues w log → (c : CutData) → cut_fault c ≡ None → c.epoch ≡ w.epoch + 1 → least w.points ≤ c.lo
    → IsSound (length w.points) (log ++ Cut c ∷ [])
cut_sound w log g c shape ep low = sound_push log (Cut c) g.sound (cut_rest_of w log g c ep low) shape (cut_law1 w log g c ep) (tt, tt, tt, tt)

cut_alive_up : (w : WriterState) (log : List Fact) → Continues w log → (c : CutData) → c.epoch ≡ w.epoch + 1 → (s : RecordData)
    → IsAliveRecord log w.epoch s × (s.number ≤ c.lo) → IsAliveRecord (log ++ Cut c ∷ []) (w.epoch + 1) s
cut_alive_up w log g c ep s p =
    let known : s.epoch ≤ w.epoch = p.0.alive.known in
    record {
      among = record_longer log (Cut c) s p.0.among;
      alive = record {
        known = omega arith;
        begun = λ d h e. ⊎_elim (λ (i : Contains (counted log) d). p.0.alive.begun d i e)
            (λ (q : Cut c ≡ Cut d). absurd (let n : c.epoch ≡ d.epoch = ap (λ (y : CutData). y.epoch) (cut_eq c d q) in omega arith))
            (counted_cases log (Cut c) d h);
        spared = λ d h l m. ⊎_elim
            (λ (i : Contains (counted log) d). p.0.alive.spared d i l (g.newest d (counted_among log d i)))
            (λ (q : Cut c ≡ Cut d). let n : c.lo ≡ d.lo = ap (λ (y : CutData). y.lo) (cut_eq c d q) in let o : s.number ≤ c.lo = p.1 in omega arith)
            (counted_cases log (Cut c) d h);
      };
    }

cut_alive_down : (w : WriterState) (log : List Fact) → Continues w log → (c : CutData) → cut_fault c ≡ None → c.epoch ≡ w.epoch + 1 → least w.points ≤ c.lo
    → (s : RecordData) → IsAliveRecord (log ++ Cut c ∷ []) (w.epoch + 1) s → IsAliveRecord log w.epoch s × (s.number ≤ c.lo)
cut_alive_down w log g c shape ep low s p =
    let i : Contains (records log) s = ⊎_elim (λ (i : Contains (records log) s). i) (λ (e : Cut c ≡ Record s). absurd (cc)) (record_cases log (Cut c) s p.among) in
    let known : s.epoch ≤ w.epoch = within log w.epoch g.sound g.newest s i in
    let counts : Contains (counted (log ++ Cut c ∷ [])) c = (counted_in (length w.points) (log ++ Cut c ∷ []) (cut_sound w log g c shape ep low) c).1
    (cut_last log c) in (
      record {
        among = i;
        alive = record {
          known = known;
          begun = λ d h e. p.alive.begun d (counted_longer log (Cut c) d h) e;
          spared = λ d h l m. p.alive.spared d (counted_longer log (Cut c) d h) l (omega arith);
        };
      },
      p.alive.spared c counts (omega arith) (omega arith),
    )

cut_epoch : (w : WriterState) (log : List Fact) → Continues w log → (c : CutData) → c.epoch ≡ w.epoch + 1
    → IsCompleteEpoch (cuts (log ++ Cut c ∷ [])) (w.epoch + 1)
cut_epoch w log g c ep = (
  inr (λ e l m. ⊎_elim
      (λ (q : w.epoch < e). (c, cut_last log c, (let n : c.epoch ≡ e = omega arith in n)))
      (λ (q : e ≤ w.epoch). let d = has_cuts (cuts log) w.epoch g.epoch e l q in (d.0, cut_longer log (Cut c) d.0 d.1, d.2))
      (cases_lt w.epoch e)),
  λ m h. ⊎_elim
      (λ (q : w.epoch + 1 < m). let d = h m (omega arith) (omega arith) in let n : d.0.epoch ≡ m = d.2 in absurd (⊎_elim
      (λ (i : Contains (cuts log) d.0). let l : d.0.epoch ≤ w.epoch = g.newest d.0 i in omega arith)
      (λ (e : Cut c ≡ Cut d.0). let o : c.epoch ≡ d.0.epoch = ap (λ (y : CutData). y.epoch) (cut_eq c d.0 e) in omega arith)
      (cut_cases log (Cut c) d.0 d.1)))
      (λ (q : m ≤ w.epoch + 1). q)
      (cases_lt (w.epoch + 1) m),
)

pub continues_cut : (w : WriterState) (log : List Fact) (c : CutData) (tops : List ℕ) (alive : List AliveRecord) → Continues w log → cut_fault c ≡ None
    → c.epoch ≡ w.epoch + 1 → least w.points ≤ c.lo → Tracks (λ r. IsAliveRecord log w.epoch r × (r.number ≤ c.lo)) w.settled tops alive
    → Continues (state_with (w.epoch + 1) c.hi w.points tops w.settled alive) (log ++ Cut c ∷ [])
continues_cut w log c tops alive g shape ep low t = record {
  sound = cut_sound w log g c shape ep low;
  epoch = cut_epoch w log g c ep;
  newest = λ d h. ⊎_elim (λ (i : Contains (cuts log) d). let l : d.epoch ≤ w.epoch = g.newest d i in omega arith)
      (λ (e : Cut c ≡ Cut d). let o : c.epoch ≡ d.epoch = ap (λ (y : CutData). y.epoch) (cut_eq c d e) in omega arith) (cut_cases log (Cut c) d h);
  last = record {
    numbers = λ q h n. absurd (⊎_elim
        (λ (i : Contains (records log) q). let l : q.epoch ≤ w.epoch = within log w.epoch g.sound g.newest q i in omega arith)
        (λ (e : Cut c ≡ Record q). cc)
        (record_cases log (Cut c) q h));
    base = λ d h n. ⊎_elim (λ (i : Contains (cuts log) d). absurd (let l : d.epoch ≤ w.epoch = g.newest d i in omega arith))
        (λ (e : Cut c ≡ Cut d). let o : c.hi ≡ d.hi = ap (λ (y : CutData). y.hi) (cut_eq c d e) in omega arith) (cut_cases log (Cut c) d h);
    least = inr (inl (c, cut_last log c, ep, refl));
  };
  points = points_kept log (Cut c) w.epoch (w.epoch + 1) w.points (omega arith) (given_within log w.epoch g.sound g.newest) (λ a e. absurd (cc)) g.points;
  past = g.past;
  alive = tracked_as (λ r. IsAliveRecord log w.epoch r × (r.number ≤ c.lo)) (IsAliveRecord (log ++ Cut c ∷ []) (w.epoch + 1)) w.settled tops alive
      (cut_alive_up w log g c ep) (cut_alive_down w log g c shape ep low) t;
}

-- one more advance
same_advance : (log : List Fact) (a b : AdvanceData) → Contains (advances (log ++ Advance a ∷ [])) b → Contains (advances log) b ⊎ (a ≡ b)
same_advance log a b h = ⊎_elim inl (λ (e : Advance a ≡ Advance b). let s : a ≡ b = cc in inr s) (advance_cases log (Advance a) b h)

extends_advance : (w : WriterState) (log : List Fact) → Continues w log → (a : AdvanceData) → a.epoch ≡ w.epoch
    → Extends (length w.points) log (log ++ Advance a ∷ []) w.epoch
extends_advance w log g a ep = extends_other log (Advance a) w.epoch (λ c e. absurd (cc)) (λ d h. g.newest d (counted_among log d h))
    (λ b e. let s : a ≡ b = cc in ap (λ (y : AdvanceData). y.epoch) (sym s) ∙ ep)

advance_rest_of : (w : WriterState) (log : List Fact) → Continues w log → (a : AdvanceData) → a.epoch ≡ w.epoch → (f : Fact) → Contains log f
    → KeepsRest (length w.points) log f → KeepsRest (length w.points) (log ++ Advance a ∷ []) f
advance_rest_of w log g a ep (Record q) h k =
    let hq = (record_in log q).1 h in
    record_keeps log (log ++ Advance a ∷ []) w.epoch q (extends_advance w log g a ep) (λ o m. record_longer log (Advance a) o m)
    (λ o m i below. ⊎_elim (λ (j : Contains (records log) o). j) (λ (e : Advance a ≡ Record o). absurd (cc)) (record_cases log (Advance a) o m))
    (within log w.epoch g.sound g.newest q hq) k
advance_rest_of w log g a ep (Cut d) h k = (tt, tt, tt, tt)
advance_rest_of w log g a ep (Advance b) h k = advance_keeps log (log ++ Advance a ∷ []) w.epoch b (extends_advance w log g a ep) k

sound_advanced : (w : WriterState) (log : List Fact) → Continues w log → (a : AdvanceData) → HasShape (Advance a) → a.epoch ≡ w.epoch
    → IsReader (length w.points) a.reader → IsSound (length w.points) (log ++ Advance a ∷ [])
sound_advanced w log g a shape ep reader =
    sound_push log (Advance a) g.sound (advance_rest_of w log g a ep) shape (law1_advance log a) (
      tt,
      tt,
      tt,
      (
        reader,
        subst (HasCutsTo (counted (log ++ Advance a ∷ []))) (sym ep)
            (has_cuts_longer log (log ++ Advance a ∷ []) w.epoch w.epoch (extends_advance w log g a ep) (begun w log g)),
        λ c h l past. absurd (
            let m : c.epoch ≤ w.epoch = ⊎_elim (λ (i : Contains (counted log) c). g.newest c (counted_among log c i)) (λ (q : Advance a ≡ Cut c). absurd (cc))
            (counted_cases log (Advance a) c h) in
            omega arith),
      ),
    )

-- a reader's point is raised to an advance's
abbrev pub RaisesTo : AdvanceData → List ℕ → List ℕ → Type 0
RaisesTo a old new =
    (point_of new a.reader ≡ max (point_of old a.reader) a.point)
    × ((reader : ℕ) → IsReader (length old) reader → reader ≢ a.reader → point_of new reader ≡ point_of old reader)

max_cases : (m n p : ℕ) → p ≡ max m n → (p ≡ m) ⊎ (p ≡ n)
max_cases m n p e = grind (arith, e)

points_to : (w : WriterState) (log : List Fact) → Continues w log → (a : AdvanceData) (new : List ℕ) → a.epoch ≡ w.epoch → RaisesTo a w.points new
    → (reader : ℕ) → IsReader (length w.points) reader → IsPoint (advances (log ++ Advance a ∷ [])) w.epoch reader (point_of new reader)
points_to w log g a new ep raises reader r = ⊎_elim own other (cases_eq reader a.reader)
  where
    more : (m : ℕ) → HasAdvance (advances log) w.epoch reader m → HasAdvance (advances (log ++ Advance a ∷ [])) w.epoch reader m
    more m h = (h.0, advance_longer log (Advance a) h.0 h.1, h.2, h.3, h.4)

    fewer : (m : ℕ) → HasAdvance (advances (log ++ Advance a ∷ [])) w.epoch reader m
        → HasAdvance (advances log) w.epoch reader m ⊎ ((a.reader ≡ reader) × (a.point ≡ m))
    fewer m h = ⊎_elim
        (λ (i : Contains (advances log) h.0). inl (h.0, i, h.2, h.3, h.4))
        (λ (e : a ≡ h.0). inr (ap (λ (y : AdvanceData). y.reader) e ∙ h.3, ap (λ (y : AdvanceData). y.point) e ∙ h.4))
        (same_advance log a h.0 h.1)

    other : reader ≢ a.reader → IsPoint (advances (log ++ Advance a ∷ [])) w.epoch reader (point_of new reader)
    other apart = subst (IsPoint (advances (log ++ Advance a ∷ [])) w.epoch reader) (sym (raises.1 reader r apart)) (
      ⊎_elim inl (λ (h : HasAdvance (advances log) w.epoch reader (point_of w.points reader)). inr (more (point_of w.points reader) h)) (g.points.each reader r).0,
      λ m h. ⊎_elim (λ (i : HasAdvance (advances log) w.epoch reader m). (g.points.each reader r).1 m i)
          (λ (i : (a.reader ≡ reader) × (a.point ≡ m)). absurd (apart (sym i.0))) (fewer m h),
    )

    own : reader ≡ a.reader → IsPoint (advances (log ++ Advance a ∷ [])) w.epoch reader (point_of new reader)
    own e =
        let q : point_of new reader ≡ max (point_of w.points reader) a.point = subst (λ n. point_of new n ≡ max (point_of w.points n) a.point) (sym e) raises.0 in (
          ⊎_elim
              (λ (s : point_of new reader ≡ point_of w.points reader). ⊎_elim (λ (z : point_of w.points reader ≡ 0). inl (s ∙ z))
              (λ (h : HasAdvance (advances log) w.epoch reader (point_of w.points reader)).
              inr (subst (HasAdvance (advances (log ++ Advance a ∷ [])) w.epoch reader) (sym s) (more (point_of w.points reader) h)))
              (g.points.each reader r).0)
              (λ (s : point_of new reader ≡ a.point). inr (a, advance_last log a, (let l : a.epoch ≤ w.epoch = omega arith in l), sym e, sym s))
              (max_cases (point_of w.points reader) a.point (point_of new reader) q),
          λ m h. ⊎_elim
              (λ (i : HasAdvance (advances log) w.epoch reader m). let l : m ≤ point_of w.points reader = (g.points.each reader r).1 m i in omega (arith, q))
              (λ (i : (a.reader ≡ reader) × (a.point ≡ m)). let l : a.point ≡ m = i.1 in omega (arith, q))
              (fewer m h),
        )

least_raised : (roster : ℕ) (old new : List ℕ) (a : AdvanceData) → length old ≡ roster → length new ≡ roster → RaisesTo a old new → least old ≤ least new
least_raised roster old new a e f raises = least_mono roster old new e f (λ reader r. ⊎_elim
    (λ (q : reader ≡ a.reader). let s : point_of new reader ≡ max (point_of old reader) a.point = subst
    (λ n. point_of new n ≡ max (point_of old n) a.point) (sym q) raises.0 in omega (arith, s))
    (λ (q : reader ≢ a.reader). let s : point_of new reader ≡ point_of old reader = raises.1 reader (subst (λ n. IsReader n reader) (sym e) r) q in omega arith)
    (cases_eq reader a.reader))

pub continues_advance : (w : WriterState) (log : List Fact) (a : AdvanceData) (new : List ℕ) → Continues w log → HasShape (Advance a) → a.epoch ≡ w.epoch
    → IsReader (length w.points) a.reader → length new ≡ length w.points → RaisesTo a w.points new
    → Continues (state_with w.epoch w.last new w.page_tops w.settled w.alive) (log ++ Advance a ∷ [])
continues_advance w log a new g shape ep reader len raises =
    let x = extends_advance w log g a ep in
    record {
      sound = subst (λ n. IsSound n (log ++ Advance a ∷ [])) (sym len) (sound_advanced w log g a shape ep reader);
      epoch = epoch_kept log (Advance a) w.epoch (λ c e. absurd (cc)) g.epoch;
      newest = λ c h. ⊎_elim (g.newest c) (λ (e : Advance a ≡ Cut c). absurd (cc)) (cut_cases log (Advance a) c h);
      last = record {
        numbers = λ q h n. ⊎_elim (λ (m : Contains (records log) q). g.last.numbers q m n) (λ (e : Advance a ≡ Record q). absurd (cc))
            (record_cases log (Advance a) q h);
        base = λ c h n. ⊎_elim (λ (m : Contains (cuts log) c). g.last.base c m n) (λ (e : Advance a ≡ Cut c). absurd (cc)) (cut_cases log (Advance a) c h);
        least = ⊎_elim (λ h. inl (h.0, record_longer log (Advance a) h.0 h.1, h.2, h.3))
            (λ h. inr (⊎_elim (λ i. inl (i.0, cut_longer log (Advance a) i.0 i.1, i.2, i.3)) inr h)) g.last.least;
      };
      points = record {
        count = refl;
        each = λ reader r. points_to w log g a new ep raises reader (subst (λ n. IsReader n reader) len r);
      };
      past = (let l : w.settled ≤ least w.points = g.past in let m : least w.points ≤ least new = least_raised (length w.points) w.points new a refl len raises in
          omega arith);
      alive = tracked_as (IsAliveRecord log w.epoch) (IsAliveRecord (log ++ Advance a ∷ []) w.epoch) w.settled w.page_tops w.alive
          (λ s p. record {
            among = record_longer log (Advance a) s p.among;
            alive = alive_longer log (log ++ Advance a ∷ []) w.epoch w.epoch s.epoch s.number x (omega arith) p.alive;
          })
          (λ s p. record {
            among = ⊎_elim (λ (i : Contains (records log) s). i) (λ (e : Advance a ≡ Record s). absurd (cc)) (record_cases log (Advance a) s p.among);
            alive = alive_shorter log (log ++ Advance a ∷ []) w.epoch w.epoch s.epoch s.number x p.alive;
          })
          g.alive;
    }

-- fewer entries
pub continues_settled : (w : WriterState) (log : List Fact) (settled : ℕ) (alive : List AliveRecord) → Continues w log → settled ≤ least w.points
    → Tracks (IsAliveRecord log w.epoch) settled w.page_tops alive → Continues (state_with w.epoch w.last w.points w.page_tops settled alive) log
continues_settled w log settled alive g past t = record {
  sound = g.sound;
  epoch = g.epoch;
  newest = g.newest;
  last = g.last;
  points = g.points;
  past = past;
  alive = t;
}

-- nothing yet
pub continues_nothing : (roster : ℕ) → IsRoster roster → Continues (empty_writer roster) []
continues_nothing roster readers =
    let len : length (replicate {A = ℕ} roster 0) ≡ roster = length-replicate {A = ℕ} roster 0 in
    record {
      sound = record { readers = subst IsRoster (sym len) readers; keeps = λ p f h. absurd (none-some f h) };
      epoch = (
        inl refl,
        λ m h. ⊎_elim (λ (e : m ≡ 0). omega arith) (λ (e : m ≢ 0). let c = h m (omega arith) (omega arith) in
            absurd (none_in (Cut c.0) ((cut_in [] c.0).0 c.1))) (cases_eq m 0),
      );
      newest = λ c h. absurd (none_in (Cut c) ((cut_in [] c).0 h));
      last = record {
        numbers = λ r h q. absurd (none_in (Record r) ((record_in [] r).0 h));
        base = λ c h q. absurd (none_in (Cut c) ((cut_in [] c).0 h));
        least = inr (inr (refl, refl));
      };
      points = record {
        count = refl;
        each = λ reader r. (
          inl (get_or-replicate roster (reader - 1) 0 0 (let l : reader ≤ roster = subst (λ n. reader ≤ n) len r.1 in let s : 1 ≤ reader = r.0 in omega arith)),
          λ m h. absurd (none_in (Advance h.0) ((advance_in [] h.0).0 h.1)),
        );
      };
      past = omega arith;
      alive = nothing_tracked (IsAliveRecord [] 0) (λ r p. none_in (Record r) ((record_in [] r).0 p.among));
    }
