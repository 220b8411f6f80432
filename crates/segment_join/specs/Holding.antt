-- What a state stores of another one, besides the facts that it took.
use Rattle.std.specs.Prelude.{◌≡◌, ◌≤◌, ◌⊎◌}
use Rattle.std.specs.List.{Contains}
use Rattle.redo_core.specs.Data.{RecordData}
use Rattle.redo_core.specs.Standing.{IsDead}
use Rattle.segment_theorems.specs.State.{State, SameBase, version_of}
use Rattle.segment_theorems.specs.Means.{IsInImage}
use Rattle.segment_core.specs.Refusing.{HoldsOther}

-- a record does not wait in a state's view, and its page's image in the other state has it, at or below the other's base point
abbrev pub InOtherImage : State → State → RecordData → Type 0
InOtherImage s other r = (r.epoch ≤ s.book.complete) × (r.number ≤ other.base) × (r.number ≤ version_of other.store r.page)

-- nothing of the record is missing: it is dead in the state's view, or its page's image has it, the state's own or the other's
abbrev pub IsNeedless : State → State → RecordData → Type 0
IsNeedless s other r = IsDead s.book.cuts s.book.complete r.epoch r.number ⊎ (IsInImage s r ⊎ InOtherImage s other r)

-- a state need not store a record: it stores another one under its key, or nothing of it is missing
abbrev pub IsSpared : State → State → RecordData → Type 0
IsSpared s other r = HoldsOther s r ⊎ IsNeedless s other r

-- what the state stored is stored, and of the other's stored records each that is not spared, and none that is needless
pub record HoldsRest (old other new : State) : Type 0 where
  pub book : new.book ≡ old.book
  pub rest : SameBase old new
  pub before : (r : RecordData) → Contains old.held r → Contains new.held r
  pub more : (r : RecordData) → Contains new.held r → Contains old.held r ⊎ (Contains other.held r × (IsNeedless old other r → ⊥))
  pub each : (r : RecordData) → Contains other.held r → Contains new.held r ⊎ IsSpared old other r
