-- What a writer stores of its log, and the effects of its calls.
use Rattle.std.specs.Prelude.{◌≡◌, ℕ, ◌+◌, ◌<◌, ◌≤◌, ◌⊎◌, false, List, [], ◌∷◌, ◌++◌, Some, None}
use Rattle.std.specs.List.{Contains}
use Rattle.redo_core.specs.Writes.{WriteData}
use Rattle.redo_core.specs.Data.{RecordData, CutData, AdvanceData, record_of, plain, cut_of, advance_of}
use Rattle.redo_core.specs.Shape.{record_fault, cut_fault, advance_fault}
use Rattle.redo_core.specs.Sets.{records, cuts, advances}
use Rattle.redo_core.specs.Roster.{IsReader, least}
use Rattle.redo_core.specs.Points.{ArePoints}
use Rattle.redo_core.specs.CompleteEpoch.{HasCutsTo, IsCompleteEpoch}
use Rattle.redo_core.specs.Sound.{IsSound, counted}
use Rattle.redo_core.specs.declared.facts.Fact.{Fact}
use Rattle.redo_core.specs.declared.facts.Fact.TheVariants.{Record, Cut, Advance}
use Rattle.log_law.specs.declared.alive.AliveRecords.{AliveRecords}
use Rattle.log_law.specs.declared.links.Item.{Item}
use Rattle.log_law.specs.declared.writer.WriterFault.{WriterFault}
use Rattle.log_law.specs.declared.writer.WriterFault.TheVariants.{Shape, LoBelowAdvance, NumberNotAbove, OtherRoster, EpochsUsedUp, Memory}
use Rattle.log_law.specs.Alive.{HoldsAlive}
use Rattle.log_law.specs.Links.{AreItems}

-- the last LSN of epoch k, or its hi where it has no record yet
pub record IsBoundAt (log : List Fact) (k bound : ℕ) : Type 0 where
  pub numbers : (r : RecordData) → Contains (records log) r → r.epoch ≡ k → r.number ≤ bound
  pub base : (c : CutData) → Contains (cuts log) c → c.epoch ≡ k → c.hi ≤ bound
  pub least : ((r : RecordData) × Contains (records log) r × (r.epoch ≡ k) × (r.number ≡ bound))
      ⊎ (((c : CutData) × Contains (cuts log) c × (c.epoch ≡ k) × (c.hi ≡ bound)) ⊎ ((k ≡ 0) × (bound ≡ 0)))

-- the bound of the writer's epoch, which is the complete epoch
abbrev pub IsBound : List Fact → ℕ → Type 0
IsBound log bound = (k : ℕ) × IsCompleteEpoch (cuts log) k × IsBoundAt log k bound

-- the minimum read point, the least of the readers' points
abbrev pub IsMinimum : ℕ → List Fact → ℕ → Type 0
IsMinimum roster log point = (k : ℕ) × IsCompleteEpoch (cuts log) k × ((points : List ℕ) × ArePoints roster (advances log) k points × (point ≡ least points))

-- a writer as contracts see it: the number of readers, and all that was written
pub record WriterData : Type 0 where
  pub roster : ℕ
  pub log : List Fact

abbrev pub writer_of : ℕ → List Fact → WriterData
writer_of roster log = record { roster = roster; log = log }

-- one more fact
abbrev pub AppendsFact : WriterData → Fact → WriterData → Type 0
AppendsFact old fact new = new ≡ writer_of old.roster (old.log ++ fact ∷ [])

-- what a writer stores is true of its sound log
pub record IsWritten (roster : ℕ) (log : List Fact) (alive : AliveRecords) (last : ℕ) (points : List ℕ) : Type 0 where
  pub sound : IsSound roster log
  pub begun : HasCutsTo (counted log) alive.view
  pub upto : (c : CutData) → Contains (cuts log) c → c.epoch ≤ alive.view
  pub within : (r : RecordData) → Contains (records log) r → r.epoch ≤ alive.view
  pub bound : IsBoundAt log alive.view last
  pub given : (a : AdvanceData) → Contains (advances log) a → a.epoch ≤ alive.view
  pub reached : ArePoints roster (advances log) alive.view points
  pub held : (past : List Item) × AreItems log past × HoldsAlive log past alive

-- a record of which only the LSN and the writes are checked
abbrev pub plain_record : ℕ → List WriteData → RecordData
plain_record number writes = record_of 0 number 0 0 0 writes

-- the record is of the complete epoch, above all its LSNs, with what was given, and joins the log
pub record AppendsRecord (old new : WriterData) (given_number given_page : ℕ) (given_writes : List WriteData) (r : RecordData) : Type 0 where
  pub joins : AppendsFact old (Record r) new
  pub sound : IsSound new.roster new.log
  pub epoch : IsCompleteEpoch (cuts old.log) r.epoch
  pub above : (bound : ℕ) × IsBound old.log bound × (bound < given_number)
  pub number : r.number ≡ given_number
  pub page : r.page ≡ given_page
  pub init : r.init ≡ false
  pub patches : r.patches ≡ plain given_writes

abbrev pub RefusesAppend : WriterData → ℕ → List WriteData → WriterFault → Type 0
RefusesAppend w number writes (Shape fault) = record_fault (plain_record number writes) ≡ Some fault
RefusesAppend w number writes (LoBelowAdvance point) = ⊥
RefusesAppend w number writes (NumberNotAbove bound) = (record_fault (plain_record number writes) ≡ None) × IsBound w.log bound × (number ≤ bound)
RefusesAppend w number writes (OtherRoster own shown) = ⊥
RefusesAppend w number writes EpochsUsedUp = ⊥
RefusesAppend w number writes Memory = (record_fault (plain_record number writes) ≡ None) × ((bound : ℕ) × IsBound w.log bound × (bound < number))

-- the truncation opens the epoch after the complete one, and joins the log
pub record RecoversAt (old new : WriterData) (given_lo given_hi : ℕ) (c : CutData) : Type 0 where
  pub joins : AppendsFact old (Cut c) new
  pub sound : IsSound new.roster new.log
  pub epoch : IsCompleteEpoch (cuts new.log) c.epoch
  pub next : (k : ℕ) × IsCompleteEpoch (cuts old.log) k × (c.epoch ≡ k + 1)
  pub lo : c.lo ≡ given_lo
  pub hi : c.hi ≡ given_hi

abbrev pub RefusesRecover : WriterData → ℕ → ℕ → WriterFault → Type 0
RefusesRecover w lo hi (Shape fault) = cut_fault (cut_of 1 lo hi) ≡ Some fault
RefusesRecover w lo hi (LoBelowAdvance point) = (cut_fault (cut_of 1 lo hi) ≡ None) × IsMinimum w.roster w.log point × (lo < point)
RefusesRecover w lo hi (NumberNotAbove bound) = ⊥
RefusesRecover w lo hi (OtherRoster own shown) = ⊥
RefusesRecover w lo hi EpochsUsedUp = (cut_fault (cut_of 1 lo hi) ≡ None) × ((point : ℕ) × IsMinimum w.roster w.log point × (point ≤ lo)) × IsCompleteEpoch
    (cuts w.log) 65535
RefusesRecover w lo hi Memory = (cut_fault (cut_of 1 lo hi) ≡ None) × ((point : ℕ) × IsMinimum w.roster w.log point × (point ≤ lo))
    × (IsCompleteEpoch (cuts w.log) 65535 → ⊥)

-- the advance is of the complete epoch and joins the log
pub record AdvancesAt (old new : WriterData) (given_reader given_point : ℕ) (a : AdvanceData) : Type 0 where
  pub joins : AppendsFact old (Advance a) new
  pub sound : IsSound new.roster new.log
  pub epoch : IsCompleteEpoch (cuts old.log) a.epoch
  pub reader : a.reader ≡ given_reader
  pub point : a.point ≡ given_point

abbrev pub RefusesPoint : WriterData → ℕ → ℕ → WriterFault → Type 0
RefusesPoint w reader point (Shape fault) = advance_fault (advance_of 0 reader point) ≡ Some fault
RefusesPoint w reader point (LoBelowAdvance p) = ⊥
RefusesPoint w reader point (NumberNotAbove bound) = ⊥
RefusesPoint w reader point (OtherRoster own shown) = (advance_fault (advance_of 0 reader point) ≡ None) × (own ≡ w.roster) × (shown ≡ reader)
    × (IsReader w.roster reader → ⊥)
RefusesPoint w reader point EpochsUsedUp = ⊥
RefusesPoint w reader point Memory = (advance_fault (advance_of 0 reader point) ≡ None) × IsReader w.roster reader
