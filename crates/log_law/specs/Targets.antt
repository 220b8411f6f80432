-- What a backlink should name: the greatest LSN below its record's own that is alive in the view of its epoch. Indices count from 1.
use Rattle.std.specs.Prelude.{◌≡◌, ℕ, ◌+◌, ◌<◌, ◌≤◌, ◌⊎◌, ◌↔◌, List, length, slice_get, slice_index, Option, Some, None}
use Rattle.std.specs.List.{Contains}
use Rattle.redo_core.specs.Data.{RecordData, CutData}
use Rattle.redo_core.specs.Shape.{max_number}
use Rattle.redo_core.specs.Sound.{IsAliveBelow, counted}
use Rattle.redo_core.specs.declared.facts.Fact.{Fact}
use Rattle.redo_core.specs.declared.facts.Fact.TheVariants.{Record}
use Rattle.log_law.specs.declared.targets.Target.{Target}

-- the fact is at an index
abbrev pub IsPlaced : List Fact → ℕ → Fact → Type 0
IsPlaced log place fact = (before : ℕ) × (place ≡ before + 1) × (slice_get log before ≡ Some fact)

-- a record of the page, where one is given
abbrev pub IsOfPage : Option ℕ → RecordData → Type 0
IsOfPage None s = Unit {0}
IsOfPage (Some page) s = s.page ≡ page

-- a bound is the greatest LSN of a record of the epoch that the later truncations up to the view's epoch leave alive
abbrev pub IsBoundTo : List Fact → ℕ → ℕ → ℕ → Type 0
IsBoundTo log view epoch bound = (n : ℕ) → (n ≤ bound) ↔ ((n ≤ max_number) × ((c : CutData) → Contains (counted log) c → epoch < c.epoch → c.epoch ≤ view → n ≤ c.lo))

-- the bounds of the epochs up to the view's
pub record AreBoundsTo (log : List Fact) (view : ℕ) (bounds : List ℕ) : Type 0 where
  pub len : length bounds ≡ view + 1
  pub each : (epoch : ℕ) → epoch ≤ view → IsBoundTo log view epoch (slice_index bounds epoch)

-- the LSN is the greatest that the backlink may name, with its record's index, or 0
abbrev pub IsTarget : List Fact → RecordData → (RecordData → Type 0) → Target → Type 0
IsTarget log r Only t =
    ((t.number ≡ 0) ⊎ ((s : IsAliveBelow log r Only t.number) × IsPlaced log t.place (Record s.other))) × ((n : ℕ) → IsAliveBelow log r Only n → n ≤ t.number)
