-- From what is known at an index to the law that its fact breaks first, and from index to index.
use Rattle.std.proofs.Common.{◌≡◌, ◌≢◌, ℕ, ◌+◌, ◌<◌, ◌≤◌, ⊎_elim, List, length, take, refl, sym, ◌∙◌, subst, arith, Option, Some, None, true, false, rules}
use Rattle.std.specs.Prelude.{slice_get, MatchOption, ◌==◌}
use Rattle.std.proofs.lemmas.Bool.{cases_lt, cases_eq}
use Rattle.std.proofs.lemmas.Option.{same_Some, slice_get_within, get_or_from_slice_get}
use Rattle.redo_core.specs.Data.{RecordData, CutData, AdvanceData}
use Rattle.redo_core.specs.Sound.{Law1, Law2, Law5, HasShape, KeepsLaws, IsSound}
use Rattle.redo_core.specs.Roster.{IsRoster}
use Rattle.redo_core.specs.Fault.{BreaksFirst}
use Rattle.redo_core.specs.declared.facts.Fact.{Fact}
use Rattle.redo_core.specs.declared.facts.Fact.TheVariants.{Record, Cut, Advance}
use Rattle.redo_core.specs.declared.laws.Law.{Law}
use Rattle.redo_core.specs.declared.laws.Law.TheVariants.{EpochBegun, AdvanceKept}
use Rattle.redo_core.specs.declared.laws.LawFault.{LawFault}
use Rattle.redo_core.proofs.FactParts.{cut_in}
use Rattle.log_law.specs.Counted.{IsTable}
use Rattle.log_law.specs.Keys.{IsFirstKeyConflict}
use Rattle.log_law.specs.Links.{BreaksLink, Judges, IsFirstBrokenLink}
use Rattle.log_law.specs.Report.{Reports, LinkJudges, IsLawAt}
use Rattle.log_law.specs.declared.links.BrokenLink.{BrokenLink}
use Rattle.log_law.proofs.Least.{one_redo}

pub record_verdict : (roster : ℕ) (log : List Fact) (place : ℕ) (r : RecordData) (o : Option Law) → HasShape (Record r) → Law1 (take place log) (Record r)
    → Law2 log (Record r) → Judges log r o → MatchOption o (KeepsLaws roster log place (Record r)) (BreaksFirst roster log place (Record r))
record_verdict roster log place r o s one two j = search rules

pub record_not_begun : (roster : ℕ) (log : List Fact) (place : ℕ) (r : RecordData) → Law1 (take place log) (Record r) → (Law2 log (Record r) → ⊥)
    → BreaksFirst roster log place (Record r) EpochBegun
record_not_begun roster log place r one two = (two, (one, tt))

pub advance_verdict : (roster : ℕ) (log : List Fact) (place : ℕ) (a : AdvanceData) → HasShape (Advance a) → Law1 (take place log) (Advance a)
    → Law5 roster log (Advance a) → KeepsLaws roster log place (Advance a)
advance_verdict roster log place a s one five = record { shape = s; law1 = one; law2 = tt; law3 = tt; law4 = tt; law5 = five }

pub advance_not_kept : (roster : ℕ) (log : List Fact) (place : ℕ) (a : AdvanceData) → Law1 (take place log) (Advance a) → (Law5 roster log (Advance a) → ⊥)
    → BreaksFirst roster log place (Advance a) AdvanceKept
advance_not_kept roster log place a one five = (five, (one, (tt, (tt, (tt, tt)))))

-- what the law of a broken link at an index implies for the record there
record_link : (log : List Fact) (place : ℕ) (r : RecordData) (link : Option BrokenLink) (answer : Option Law) → slice_get log place ≡ Some (Record r)
    → IsFirstBrokenLink log link → ((b : BrokenLink) → link ≡ Some b → place ≤ b.place) → IsLawAt link place answer → Law2 log (Record r) → Judges log r answer
record_link log place r None answer at first upto law two = subst (Judges log r) (sym law) (first place r at two)
record_link log place r (Some b) answer at first upto law two =
    ⊎_elim
    (λ (e : b.place ≡ place).
    let w = first.1 in
    let same : w.0 ≡ r = one_redo log place w.0 r (subst (λ i. slice_get log i ≡ Some (Record w.0)) e w.1) at in
    subst (Judges log r) (sym (law.0 e)) (subst (λ x. BreaksLink log x b.law) same w.2))
    (λ (e : b.place ≢ place).
    let l : place ≤ b.place = upto b refl in
    subst (Judges log r) (sym (law.1 e)) (first.0 place r (omega arith) at two))
    (cases_eq b.place place)

pub link_judges : (log : List Fact) (place : ℕ) (f : Fact) (link : Option BrokenLink) (answer : Option Law) → slice_get log place ≡ Some f
    → IsFirstBrokenLink log link → ((b : BrokenLink) → link ≡ Some b → place ≤ b.place) → IsLawAt link place answer → LinkJudges log f answer
link_judges log place f link answer at first upto law = search (rules, record_link)

pub link_further : (roster : ℕ) (log : List Fact) (place : ℕ) (f : Fact) (link : Option BrokenLink) → slice_get log place ≡ Some f → IsFirstBrokenLink log link
    → KeepsLaws roster log place f → ((b : BrokenLink) → link ≡ Some b → place ≤ b.place) → (b : BrokenLink) → link ≡ Some b → place + 1 ≤ b.place
link_further roster log place f link at first kept upto b e = search rules

pub other_further : (roster : ℕ) (log : List Fact) (place other : ℕ) (f : Fact) → slice_get log place ≡ Some f → IsFirstKeyConflict log other
    → KeepsLaws roster log place f → place ≤ other → place + 1 ≤ other
other_further roster log place other f at first kept l = search rules

abbrev pub KeepToPlace : ℕ → List Fact → ℕ → Type 0
KeepToPlace roster log place = (earlier : ℕ) (f : Fact) → earlier < place → slice_get log earlier ≡ Some f → KeepsLaws roster log earlier f

pub kept_further : (roster : ℕ) (log : List Fact) (place : ℕ) (f : Fact) → slice_get log place ≡ Some f → KeepsLaws roster log place f
    → KeepToPlace roster log place → KeepToPlace roster log (place + 1)
kept_further roster log place f at k all earlier g l h =
    ⊎_elim
    (λ (q : earlier < place). all earlier g q h)
    (λ (q : place ≤ earlier).
    let e : earlier ≡ place = omega arith in
    let same : f ≡ g = same_Some f g (sym at ∙ subst (λ i. slice_get log i ≡ Some g) e h) in
    subst (λ i. KeepsLaws roster log i g) (sym e) (subst (KeepsLaws roster log place) same k))
    (cases_lt earlier place)

pub reported : (roster : ℕ) (log : List Fact) (place : ℕ) (f : Fact) (law : Law) (fault : LawFault) → fault.place ≡ place + 1 → fault.law ≡ law
    → slice_get log place ≡ Some f → BreaksFirst roster log place f law → KeepToPlace roster log place → Reports roster log fault
reported roster log place f law fault e q at b all = search rules

pub all_sound : (roster : ℕ) (log : List Fact) (place : ℕ) → IsRoster roster → length log ≤ place → KeepToPlace roster log place → IsSound roster log
all_sound roster log place readers l all = record {
  readers = readers;
  keeps = λ p f h. let m : p < length log = slice_get_within log p f h in
      all p f (omega arith) h;
}

pub cut_shape : (log : List Fact) (place : ℕ) (c : CutData) → {table : List (Option CutData)} → IsTable log table → slice_get log place ≡ Some (Cut c)
    → HasShape (Cut c)
cut_shape log place c t at = t.shapes c ((cut_in log c).1 (place, slice_get_within log place (Cut c) at, get_or_from_slice_get log place (Cut c) (Cut c) at))

-- what is found at an index
pub verdict_at : (log : List Fact) (place other : ℕ) (f : Fact) (at : slice_get log place ≡ Some f) → IsFirstKeyConflict log other → place ≤ other
    → ((place == other) ≡ true → Law1 (take place log) f → ⊥) × ((place == other) ≡ false → Law1 (take place log) f)
verdict_at log place other f at first l = search rules
