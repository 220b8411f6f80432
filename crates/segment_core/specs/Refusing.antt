-- When a take is refused, for arbitrary facts.
use Rattle.std.specs.Prelude.{◌≡◌, ◌≢◌, ℕ, ◌⊎◌, List}
use Rattle.std.specs.List.{Contains}
use Rattle.redo_core.specs.Data.{RecordData}
use Rattle.redo_core.specs.Standing.{IsAlive, IsDead}
use Rattle.redo_core.specs.Sound.{IsSound}
use Rattle.redo_core.specs.declared.facts.Fact.{Fact}
use Rattle.redo_core.specs.declared.facts.Fact.TheVariants.{Record, Cut, Advance}
use Rattle.epoch_book.specs.Refusing.{RefusesCut, RefusesAdvance}
use Rattle.epoch_book.specs.declared.refusals.BookRefusal.TheVariants as book
use Rattle.segment_theorems.specs.State.{State}
use Rattle.segment_theorems.specs.Means.{Means}
use Rattle.segment_theorems.specs.HasMeaning.{IsStable}
use Rattle.segment_core.specs.declared.answers.Refusal.{Refusal}
use Rattle.segment_core.specs.declared.answers.Refusal.TheVariants.{OtherRoster, OtherCut, Contradiction, OtherRecord}

-- a record that is dead, or alive at or below the anchor, is not compared
abbrev pub IsDeadOrSettled : State → RecordData → Type 0
IsDeadOrSettled s r =
    IsDead s.book.cuts s.book.complete r.epoch r.number ⊎ (IsAlive s.book.cuts s.book.complete r.epoch r.number × IsStable s r.number)

-- another record is stored under its key
abbrev pub HoldsOther : State → RecordData → Type 0
HoldsOther s r = (other : RecordData) × Contains s.held other × (other.epoch ≡ r.epoch) × (other.number ≡ r.number) × (other ≢ r)

-- why a fact is refused: what the book refuses, or another record under a key that is compared
abbrev pub Refuses : State → Fact → Refusal → Type 0
Refuses s (Cut c) (OtherCut d) = RefusesCut s.book c (book.OtherCut d)
Refuses s (Cut c) (Contradiction held) = RefusesCut s.book c (book.Contradiction held)
Refuses s (Advance a) (OtherRoster own shown) = RefusesAdvance s.book a (book.OtherRoster own shown)
Refuses s (Advance a) (Contradiction held) = RefusesAdvance s.book a (book.Contradiction held)
Refuses s (Record r) OtherRecord = (IsDeadOrSettled s r → ⊥) × HoldsOther s r
Refuses s fact why = ⊥

-- the fact is in a sound log, and the state means a part of it
abbrev pub FitsSoundLog : State → Fact → Type 0
FitsSoundLog s fact = (roster : ℕ) × (log facts : List Fact) × IsSound roster log × Contains log fact × Means roster log facts s
