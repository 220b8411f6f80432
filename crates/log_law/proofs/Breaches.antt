-- The evidence of how a fact breaks its law: what the searches establish, and that the evidence implies the law is broken.
use Rattle.std.proofs.Common.{◌≡◌, ◌≢◌, ℕ, ◌+◌, ◌<◌, ◌≤◌, inl, inr, ⊎_elim, List, length, get_or, take, refl, sym, ◌∙◌, subst, arith, Option, Some, None, true, rules}
use Rattle.std.specs.Prelude.{slice_get, MatchOption, IfOk, IfSome, IsSome, Result, Ok, Err, ⊤}
use Rattle.std.specs.List.{Contains}
use Rattle.std.specs.declared.alloc.AllocError.{AllocError}
use Rattle.std.proofs.lemmas.Bool.{cases_lt, cases_eq}
use Rattle.std.proofs.lemmas.Option.{none-some, slice_get_within, get_or_from_slice_get}
use Rattle.std.proofs.lemmas.List.{get_or_past}
use Rattle.redo_core.specs.Data.{RecordData, CutData, AdvanceData}
use Rattle.redo_core.specs.Fault.{KeepsLaw}
use Rattle.redo_core.specs.Order.{IsGreatest}
use Rattle.redo_core.specs.Roster.{IsReader}
use Rattle.redo_core.specs.Past.{ArePast}
use Rattle.redo_core.specs.Sets.{advances}
use Rattle.redo_core.specs.CompleteEpoch.{HasCutsTo}
use Rattle.redo_core.specs.Sound.{IsAliveBelow, Law1, Law2, Law3, Law4, Law5, counted}
use Rattle.redo_core.specs.declared.facts.Fact.{Fact}
use Rattle.redo_core.specs.declared.facts.Fact.TheVariants.{Record, Cut, Advance}
use Rattle.redo_core.specs.declared.laws.Law.{Law}
use Rattle.redo_core.specs.declared.laws.LawFault.{LawFault}
use Rattle.redo_core.proofs.FactParts.{cut_in}
use Rattle.redo_core.proofs.SoundFacts.{earlier}
use Rattle.log_law.specs.Counted.{first_cut, IsTable, AreBegunTo}
use Rattle.log_law.specs.Lows.{AreLeastPoints}
use Rattle.log_law.specs.Report.{Reports}
use Rattle.log_law.specs.declared.breach.Breach.{Breach}
use Rattle.log_law.specs.declared.breach.Breach.TheVariants.{OtherFact, NotBegun, NotAbove, Passes, NoTarget, NoReader, CutBelow}
use Rattle.log_law.specs.declared.targets.Target.{Target}
use Rattle.log_law.specs.Breach.{IsFirstMissing, IsPassed, IsAboveAll, IsCutBelow, ReportsKey, ReportsBegun, ReportsLink, ReportsSegment, ReportsBlock, ReportsAdvance, ReportsOf, ReportsBreach, ShowsBroken}
use Rattle.log_law.specs.Targets.{IsPlaced, IsTarget}
use Rattle.log_law.proofs.FirstCuts.{above_hi, at_counted, counted_among}
use Rattle.log_law.proofs.Reaching.{past_low, low_past}
use Rattle.log_law.proofs.Candidates.{EachBefore, each_member}

-- the first missing epoch is the one after the complete one
pub missing_after : (log : List Fact) (k e : ℕ) → AreBegunTo log k → k < e → IsFirstMissing log e (k + 1)
missing_after log k e b l = record {
  some = omega arith;
  upto = omega arith;
  lacks = λ d h q.
      let longer : HasCutsTo (counted log) (k + 1) = (λ i m n. ⊎_elim
      (λ (s : i ≡ k + 1). (d, h, q ∙ sym s))
      (λ (s : i ≢ k + 1). (b k).1 (omega arith) i m (omega arith))
      (cases_eq i (k + 1))) in
      absurd (let m : k + 1 ≤ k = (b (k + 1)).0 longer in omega arith);
  before = λ i m n. (b k).1 (omega arith) i m (omega arith);
}

-- law 2 by the truncation of the record's epoch
pub law2_above : (log : List Fact) (r : RecordData) (o : Option CutData) → first_cut log r.epoch ≡ o → HasCutsTo (counted log) r.epoch
    → MatchOption o ⊤ (λ c. c.hi < r.number) → Law2 log (Record r)
law2_above log r None q has h = (has, (above_hi log r.epoch r.number None true q refl).0 refl)
law2_above log r (Some d) q has h = (has, (above_hi log r.epoch r.number (Some d) true q (λ t. h, λ l. refl)).0 refl)

-- a backlink against its target
pub link_passed : (log : List Fact) (r : RecordData) (Only : RecordData → Type 0) (t : Target) (back : ℕ) → IsTarget log r Only t → back < t.number
    → IsPassed log r Only back t.place
link_passed log r Only t back target l =
    ⊎_elim
    (λ (z : t.number ≡ 0). absurd (omega arith))
    (λ (w : (s : IsAliveBelow log r Only t.number) × IsPlaced log t.place (Record s.other)). (t.number, w.0, w.1, (inr w.0, target.1), l))
    target.0

pub link_above : (log : List Fact) (r : RecordData) (Only : RecordData → Type 0) (t : Target) (back : ℕ) → IsTarget log r Only t → t.number < back
    → IsAboveAll log r Only back
link_above log r Only t back target l = (omega arith, λ n b. let m : n ≤ t.number = target.1 n b in omega arith)

pub link_right : (log : List Fact) (r : RecordData) (Only : RecordData → Type 0) (t : Target) (back : ℕ) → IsTarget log r Only t → back ≤ t.number
    → t.number ≤ back → IsGreatest (IsAliveBelow log r Only) back
link_right log r Only t back target l m =
    let e : t.number ≡ back = omega arith in (
      ⊎_elim (λ (z : t.number ≡ 0). inl (sym e ∙ z))
          (λ (w : (s : IsAliveBelow log r Only t.number) × IsPlaced log t.place (Record s.other)). inr (subst (IsAliveBelow log r Only) e w.0))
          target.0,
      λ n b. let k : n ≤ t.number = target.1 n b in omega arith,
    )

-- a truncation that all readers are past, by their least points
abbrev pub IsBelowBy : List Fact → List ℕ → AdvanceData → Fact → Type 0
IsBelowBy log lows a f = (c : CutData) × (f ≡ Cut c) × Contains (counted log) c × (a.epoch < c.epoch) × (c.lo < a.point) × (c.lo < get_or lows c.epoch 0)

table_has : (log : List Fact) (table : List (Option CutData)) (c : CutData) → IsTable log table → Contains (counted log) c → c.epoch < length table
table_has log table c t h =
    ⊎_elim
    (λ (l : c.epoch < length table). l)
    (λ (l : length table ≤ c.epoch). absurd (none-some c (sym (get_or_past table c.epoch None l) ∙ t.at c.epoch ∙ at_counted log c.epoch c h refl)))
    (cases_lt c.epoch (length table))

pub cut_below_at : (roster : ℕ) (log : List Fact) (table : List (Option CutData)) (lows : List ℕ) (a : AdvanceData) (p place : ℕ) (c : CutData)
    → IsTable log table → AreLeastPoints roster log (length table) lows → slice_get log p ≡ Some (Cut c) → place ≡ p + 1 → Contains (counted log) c
    → a.epoch < c.epoch → c.lo < a.point → c.lo < get_or lows c.epoch 0 → IsCutBelow roster log a place
cut_below_at roster log table lows a p place c t least at q counts later below low = search (rules, low_past, table_has)

pub no_cut_below : (roster : ℕ) (log : List Fact) (table : List (Option CutData)) (lows : List ℕ) (a : AdvanceData) (p : ℕ) → IsTable log table
    → AreLeastPoints roster log (length table) lows → length log ≤ p → EachBefore log (λ f. IsBelowBy log lows a f → ⊥) p → (c : CutData)
    → Contains (counted log) c → a.epoch < c.epoch → ArePast roster (advances log) c → a.point ≤ c.lo
no_cut_below roster log table lows a p t least l each c counts later past =
    ⊎_elim
    (λ (below : c.lo < a.point). absurd (each_member log (λ f. IsBelowBy log lows a f → ⊥) p (Cut c) l each ((cut_in log c).0 (counted_among log c counts))
    (c, refl, counts, later, below, past_low roster log (length table) lows c least (table_has log table c t counts) past)))
    (λ (above : a.point ≤ c.lo). above)
    (cases_lt c.lo a.point)

-- the evidence implies that the law is broken
key_shows : (log : List Fact) (place : ℕ) (fact : Fact) (b : Breach) → ReportsKey log (place + 1) fact b → Law1 (take place log) fact → ⊥
key_shows log place fact (OtherFact p) h law =
    let w = h.1 in let at = w.1 in
    let l : p < place + 1 = h.0 in let q : p ≡ at.0 + 1 = at.1 in
    w.3 (law w.0 (earlier log w.0 at.0 place (omega arith) (slice_get_within log at.0 w.0 at.2) (get_or_from_slice_get log at.0 w.0 w.0 at.2)) w.2)
key_shows log place fact (NotBegun e) h law = h
key_shows log place fact (NotAbove p) h law = h
key_shows log place fact (Passes p) h law = h
key_shows log place fact (NoTarget n) h law = h
key_shows log place fact (NoReader n) h law = h
key_shows log place fact (CutBelow p) h law = h

missing_shows : (log : List Fact) (epoch missing : ℕ) → IsFirstMissing log epoch missing → HasCutsTo (counted log) epoch → ⊥
missing_shows log epoch missing h has = let c = has missing h.some h.upto in h.lacks c.0 c.1 c.2

begun_shows : (log : List Fact) (fact : Fact) (b : Breach) → ReportsBegun log fact b → Law2 log fact → ⊥
begun_shows log (Record r) (OtherFact p) h law = h
begun_shows log (Record r) (NotBegun e) h law = missing_shows log r.epoch e h law.0
begun_shows log (Record r) (NotAbove p) h law = let l : h.0.hi < r.number = law.1 h.0 h.2 h.3 in let m : r.number ≤ h.0.hi = h.4 in omega arith
begun_shows log (Record r) (Passes p) h law = h
begun_shows log (Record r) (NoTarget n) h law = h
begun_shows log (Record r) (NoReader n) h law = h
begun_shows log (Record r) (CutBelow p) h law = h
begun_shows log (Cut c) b h law = h
begun_shows log (Advance a) b h law = h

link_shows : (log : List Fact) (r : RecordData) (Only : RecordData → Type 0) (back : ℕ) (b : Breach) → ReportsLink log r Only back b
    → IsGreatest (IsAliveBelow log r Only) back → ⊥
link_shows log r Only back (OtherFact p) h law = h
link_shows log r Only back (NotBegun e) h law = h
link_shows log r Only back (NotAbove p) h law = h
link_shows log r Only back (Passes p) h law = let l : back < h.0 = h.4 in let m : h.0 ≤ back = law.1 h.0 h.1 in omega arith
link_shows log r Only back (NoTarget n) h law =
    ⊎_elim
    (λ (z : back ≡ 0). let l : 0 < back = h.1.0 in omega arith)
    (λ (s : IsAliveBelow log r Only back). let l : back < back = h.1.1 back s in omega arith)
    law.0
link_shows log r Only back (NoReader n) h law = h
link_shows log r Only back (CutBelow p) h law = h

segment_shows : (log : List Fact) (fact : Fact) (b : Breach) → ReportsSegment log fact b → Law3 log fact → ⊥
segment_shows log fact b h law = search (rules, link_shows)

block_shows : (log : List Fact) (fact : Fact) (b : Breach) → ReportsBlock log fact b → Law4 log fact → ⊥
block_shows log fact b h law = search (rules, link_shows)

advance_shows : (roster : ℕ) (log : List Fact) (fact : Fact) (b : Breach) → ReportsAdvance roster log fact b → Law5 roster log fact → ⊥
advance_shows roster log (Record r) b h law = h
advance_shows roster log (Cut c) b h law = h
advance_shows roster log (Advance a) (OtherFact p) h law = h
advance_shows roster log (Advance a) (NotBegun e) h law = missing_shows log a.epoch e h law.1
advance_shows roster log (Advance a) (NotAbove p) h law = h
advance_shows roster log (Advance a) (Passes p) h law = h
advance_shows roster log (Advance a) (NoTarget n) h law = h
advance_shows roster log (Advance a) (NoReader n) h law = h.1 (subst (IsReader roster) (sym h.0) law.0)
advance_shows roster log (Advance a) (CutBelow p) h law = let l : a.point ≤ h.0.lo = law.2 h.0 h.2 h.3 h.4 in let m : h.0.lo < a.point = h.5 in omega arith

shows_broken : (roster : ℕ) (log : List Fact) (place : ℕ) (fact : Fact) (law : Law) (b : Breach) → ReportsOf roster log (place + 1) fact law b
    → KeepsLaw roster log place fact law → ⊥
shows_broken roster log place fact law b h k = search (rules, key_shows, begun_shows, segment_shows, block_shows, advance_shows)

pub tells_broken : ShowsBroken
tells_broken roster log fault b place fact t e at k = search (rules, shows_broken)

-- what is reported of an index is reported of the fault
abbrev pub AnswersAt : ℕ → List Fact → ℕ → Law → Option Breach → Fact → Type 0
AnswersAt roster log place law found fact = MatchOption found (KeepsLaw roster log place fact law) (ReportsOf roster log (place + 1) fact law)

told_by : (roster : ℕ) (log : List Fact) (place : ℕ) (fault : LawFault) (found : Option Breach) (at : Option Fact) → slice_get log place ≡ at
    → fault.place ≡ place + 1 → (slice_get log place ≡ None → found ≡ None)
    → ((fact : Fact) → slice_get log place ≡ Some fact → AnswersAt roster log place fault.law found fact) → IfSome found (ReportsBreach roster log fault)
told_by roster log place fault None at q e none some = tt
told_by roster log place fault (Some b) None q e none some = absurd (none-some b (sym (none q)))
told_by roster log place fault (Some b) (Some f) q e none some =
    (f, (place, e, q), subst (λ i. ReportsOf roster log i f fault.law b) (sym e) (some f q))

pub told : (roster : ℕ) (log : List Fact) (place : ℕ) (fault : LawFault) (r : Result (Option Breach) AllocError) → fault.place ≡ place + 1
    → (slice_get log place ≡ None → IfOk r (λ found. found ≡ None))
    → ((fact : Fact) → slice_get log place ≡ Some fact → IfOk r (λ found. AnswersAt roster log place fault.law found fact))
    → IfOk r (λ found. IfSome found (ReportsBreach roster log fault))
told roster log place fault (Ok found) e none some = told_by roster log place fault found (slice_get log place) refl e none some
told roster log place fault (Err e') e none some = tt

answered : (roster : ℕ) (log : List Fact) (place : ℕ) (law : Law) (found : Option Breach) (fact : Fact) → AnswersAt roster log place law found fact
    → (KeepsLaw roster log place fact law → ⊥) → IsSome found
answered roster log place law found fact h breaks = search rules

pub reported_told : (roster : ℕ) (log : List Fact) (place : ℕ) (fault : LawFault) (r : Result (Option Breach) AllocError) → fault.place ≡ place + 1
    → ((fact : Fact) → slice_get log place ≡ Some fact → IfOk r (λ found. AnswersAt roster log place fault.law found fact))
    → Reports roster log fault → IfOk r (λ found. IsSome found)
reported_told roster log place fault (Ok found) e some h =
    let same : h.0 ≡ place = (let q : fault.place ≡ h.0 + 1 = h.1 in omega arith) in
    answered roster log place fault.law found h.2.fact (some h.2.fact (subst (λ i. slice_get log i ≡ Some h.2.fact) same h.2.at_place))
    (λ k. h.2.breaks (subst (λ i. KeepsLaw roster log i h.2.fact fault.law) (sym same) k))
reported_told roster log place fault (Err e') e some h = tt
