-- The meaning of a set of facts: all that its reads, and those of its unions with others, depend on.
use Rattle.std.specs.Prelude.{◌≡◌, ◌≢◌, ℕ, ◌<◌, ◌⊎◌, List}
use Rattle.std.specs.List.{Contains}
use Rattle.redo_core.specs.Data.{RecordData, CutData, AdvanceData}
use Rattle.redo_core.specs.Sets.{records, cuts, advances}
use Rattle.redo_core.specs.Order.{Lists, CutBefore, AdvanceBefore, RecordBefore}
use Rattle.redo_core.specs.Writing.{zeros}
use Rattle.redo_core.specs.Standing.{IsAlive, IsWaiting}
use Rattle.redo_core.specs.Position.{Position, IsPosition}
use Rattle.redo_core.specs.PageAt.{IsPageAt}
use Rattle.redo_core.specs.declared.facts.Fact.{Fact}

-- a page's number and its bytes
pub record ImageData : Type 0 where
  pub page : ℕ
  pub bytes : List ℕ

abbrev pub ImageBefore : ImageData → ImageData → Type 0
ImageBefore i j = i.page < j.page

-- the truncations, each reader's point with the waiting advances, the anchor, the nonzero pages there, the kept records
pub record Meaning : Type 0 where
  pub cuts : List CutData
  pub points : List ℕ
  pub waits : List AdvanceData
  pub anchor : ℕ
  pub pages : List ImageData
  pub kept : List RecordData

-- a record is kept where it is alive above the anchor, or waits
abbrev pub IsKept : List Fact → Position → RecordData → Type 0
IsKept facts p r = Contains (records facts) r × (IsWaiting p.epoch r.epoch ⊎ (IsAlive (cuts facts) p.epoch r.epoch r.number × (p.anchor < r.number)))

-- m is the meaning of facts whose position is p
pub record IsMeaningAt (roster : ℕ) (facts : List Fact) (p : Position) (m : Meaning) : Type 0 where
  pub position : IsPosition roster facts p
  pub cuts : Lists CutBefore (Contains (cuts facts)) m.cuts
  pub points : m.points ≡ p.points
  pub waits : Lists AdvanceBefore (λ a. Contains (advances facts) a × (p.epoch < a.epoch)) m.waits
  pub anchor : m.anchor ≡ p.anchor
  pub pages : Lists ImageBefore (λ i. IsPageAt facts p.epoch i.page p.anchor i.bytes × (i.bytes ≢ zeros)) m.pages
  pub kept : Lists RecordBefore (IsKept facts p) m.kept

abbrev pub IsMeaning : ℕ → List Fact → Meaning → Type 0
IsMeaning roster facts m = (p : Position) × IsMeaningAt roster facts p m
