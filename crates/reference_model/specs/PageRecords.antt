-- The records that determine a page.
use Rattle.std.specs.Prelude.{◌≡◌, ℕ, ◌≤◌, List}
use Rattle.redo_core.specs.Data.{RecordData}
use Rattle.redo_core.specs.Sets.{cuts}
use Rattle.redo_core.specs.Standing.{IsAlive}
use Rattle.redo_core.specs.Linked.{IsLinked, IsLinkedRecord}
use Rattle.redo_core.specs.declared.facts.Fact.{Fact}

-- a linked record of page g up to q
abbrev pub IsPageRecord : List Fact → ℕ → ℕ → ℕ → RecordData → Type 0
IsPageRecord facts k g q r = IsLinkedRecord facts k r × (r.page ≡ g) × (r.number ≤ q)

-- no two different linked records of page g up to q have one LSN
abbrev pub HasNumbersOnce : List Fact → ℕ → ℕ → ℕ → Type 0
HasNumbersOnce facts k g q = (r s : RecordData) → IsPageRecord facts k g q r → IsPageRecord facts k g q s → r.number ≡ s.number → r ≡ s

-- the record would be one of page g up to q, were it among the facts
pub record StandsInPage (facts : List Fact) (k g q : ℕ) (r : RecordData) : Type 0 where
  pub page : r.page ≡ g
  pub within : r.number ≤ q
  pub alive : IsAlive (cuts facts) k r.epoch r.number
  pub linked : IsLinked facts k r.number

-- r is the record of page g with the least LSN from `from` up to q
pub record IsNextPageRecord (facts : List Fact) (k g from q : ℕ) (r : RecordData) : Type 0 where
  pub found : IsPageRecord facts k g q r
  pub above : from ≤ r.number
  pub least : (s : RecordData) → IsPageRecord facts k g q s → from ≤ s.number → r.number ≤ s.number

-- no record of page g is from `from` up to q
abbrev pub HasNoNext : List Fact → ℕ → ℕ → ℕ → ℕ → Type 0
HasNoNext facts k g from q = (r : RecordData) → IsPageRecord facts k g q r → from ≤ r.number → ⊥
