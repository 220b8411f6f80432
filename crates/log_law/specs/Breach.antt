-- The evidence of how a fact breaks its law. Indices of the log count from 1.
use Rattle.std.specs.Prelude.{◌≡◌, ℕ, ◌+◌, ◌<◌, ◌≤◌, List, slice_get, Some}
use Rattle.std.specs.List.{Contains}
use Rattle.redo_core.specs.Data.{RecordData, CutData, AdvanceData}
use Rattle.redo_core.specs.Sets.{advances}
use Rattle.redo_core.specs.Fault.{KeepsLaw}
use Rattle.redo_core.specs.Order.{IsGreatest}
use Rattle.redo_core.specs.CompleteEpoch.{HasCut, LacksCut}
use Rattle.redo_core.specs.Roster.{IsReader}
use Rattle.redo_core.specs.Past.{ArePast}
use Rattle.redo_core.specs.Sound.{SameKey, IsAliveBelow, counted}
use Rattle.redo_core.specs.declared.facts.Fact.{Fact}
use Rattle.redo_core.specs.declared.facts.Fact.TheVariants.{Record, Cut, Advance}
use Rattle.redo_core.specs.declared.laws.Law.{Law}
use Rattle.redo_core.specs.declared.laws.Law.TheVariants.{OneFactPerKey, EpochBegun, SegmentBacklink, BlockBacklink, AdvanceKept}
use Rattle.redo_core.specs.declared.laws.LawFault.{LawFault}
use Rattle.log_law.specs.Targets.{IsPlaced}
use Rattle.log_law.specs.declared.breach.Breach.{Breach}
use Rattle.log_law.specs.declared.breach.Breach.TheVariants.{OtherFact, NotBegun, NotAbove, Passes, NoTarget, NoReader, CutBelow}

-- an earlier index has the fact's key and another content
abbrev pub IsOtherAt : List Fact → ℕ → Fact → ℕ → Type 0
IsOtherAt log place fact earlier = (earlier < place) × ((other : Fact) × IsPlaced log earlier other × SameKey other fact × (other ≡ fact → ⊥))

-- the least epoch from 1 that has no truncation is at most this one
pub record IsFirstMissing (log : List Fact) (epoch missing : ℕ) : Type 0 where
  pub some : 1 ≤ missing
  pub upto : missing ≤ epoch
  pub lacks : LacksCut (counted log) missing
  pub before : (e : ℕ) → 1 ≤ e → e < missing → HasCut (counted log) e

-- the truncation at an index is the effective one of the record's epoch, and the record's LSN is not above its hi
abbrev pub IsNotAbove : List Fact → RecordData → ℕ → Type 0
IsNotAbove log r place = (c : CutData) × IsPlaced log place (Cut c) × Contains (counted log) c × (c.epoch ≡ r.epoch) × (r.number ≤ c.hi)

-- at an index is the record that the backlink should name, and its LSN is above the one that is named
abbrev pub IsPassed : List Fact → RecordData → (RecordData → Type 0) → ℕ → ℕ → Type 0
IsPassed log r Only back place = (n : ℕ) × (s : IsAliveBelow log r Only n) × IsPlaced log place (Record s.other) × IsGreatest (IsAliveBelow log r Only) n × (back < n)

-- the backlink names an LSN above those of all records that it may name
abbrev pub IsAboveAll : List Fact → RecordData → (RecordData → Type 0) → ℕ → Type 0
IsAboveAll log r Only back = (0 < back) × ((n : ℕ) → IsAliveBelow log r Only n → n < back)

-- The truncation at an index is effective and of a later epoch than the advance; all readers are past it, and its lo is below the point.
abbrev pub IsCutBelow : ℕ → List Fact → AdvanceData → ℕ → Type 0
IsCutBelow roster log a place =
    (c : CutData) × IsPlaced log place (Cut c) × Contains (counted log) c × (a.epoch < c.epoch) × ArePast roster (advances log) c × (c.lo < a.point)

-- a breach of law 1
abbrev pub ReportsKey : List Fact → ℕ → Fact → Breach → Type 0
ReportsKey log place fact (OtherFact earlier) = IsOtherAt log place fact earlier
ReportsKey log place fact _ = ⊥

-- a breach of law 2
abbrev pub ReportsBegun : List Fact → Fact → Breach → Type 0
ReportsBegun log (Record r) (NotBegun epoch) = IsFirstMissing log r.epoch epoch
ReportsBegun log (Record r) (NotAbove place) = IsNotAbove log r place
ReportsBegun log _ _ = ⊥

-- a wrong backlink, in the chain of the records with Only
abbrev pub ReportsLink : List Fact → RecordData → (RecordData → Type 0) → ℕ → Breach → Type 0
ReportsLink log r Only back (Passes place) = IsPassed log r Only back place
ReportsLink log r Only back (NoTarget number) = (number ≡ back) × IsAboveAll log r Only back
ReportsLink log r Only back _ = ⊥

-- a breach of law 3
abbrev pub ReportsSegment : List Fact → Fact → Breach → Type 0
ReportsSegment log (Record r) breach = ReportsLink log r (λ s. Unit {0}) r.back breach
ReportsSegment log _ breach = ⊥

-- a breach of law 4
abbrev pub ReportsBlock : List Fact → Fact → Breach → Type 0
ReportsBlock log (Record r) breach = ReportsLink log r (λ s. s.page ≡ r.page) r.block_back breach
ReportsBlock log _ breach = ⊥

-- a breach of law 5
abbrev pub ReportsAdvance : ℕ → List Fact → Fact → Breach → Type 0
ReportsAdvance roster log (Advance a) (NoReader reader) = (reader ≡ a.reader) × (IsReader roster reader → ⊥)
ReportsAdvance roster log (Advance a) (NotBegun epoch) = IsFirstMissing log a.epoch epoch
ReportsAdvance roster log (Advance a) (CutBelow place) = IsCutBelow roster log a place
ReportsAdvance roster log _ _ = ⊥

-- the breach is true evidence of how the fact at the index breaks the law
abbrev pub ReportsOf : ℕ → List Fact → ℕ → Fact → Law → Breach → Type 0
ReportsOf roster log place fact OneFactPerKey breach = ReportsKey log place fact breach
ReportsOf roster log place fact EpochBegun breach = ReportsBegun log fact breach
ReportsOf roster log place fact SegmentBacklink breach = ReportsSegment log fact breach
ReportsOf roster log place fact BlockBacklink breach = ReportsBlock log fact breach
ReportsOf roster log place fact AdvanceKept breach = ReportsAdvance roster log fact breach

-- the breach is true of the log, and implies that the fault is one
abbrev pub ReportsBreach : ℕ → List Fact → LawFault → Breach → Type 0
ReportsBreach roster log fault breach = (fact : Fact) × IsPlaced log fault.place fact × ReportsOf roster log fault.place fact fault.law breach

-- what is reported implies that the law is broken
abbrev pub ShowsBroken : Type 0
ShowsBroken = (roster : ℕ) (log : List Fact) (fault : LawFault) (breach : Breach) (place : ℕ) (fact : Fact) → ReportsBreach roster log fault breach
    → fault.place ≡ place + 1 → slice_get log place ≡ Some fact → KeepsLaw roster log place fact fault.law → ⊥
