-- When one segment's meaning covers another's, part by part.
use Rattle.std.specs.Prelude.{ℕ, ◌≤◌, ◌⊎◌, ◌↔◌, List, Bool, IsTrue}
use Rattle.std.specs.List.{Contains, AllZip}
use Rattle.redo_core.specs.Data.{RecordData, CutData, AdvanceData}
use Rattle.redo_core.specs.declared.keys.Key.{Key}
use Rattle.redo_core.specs.Standing.{IsDead}
use Rattle.redo_core.specs.Sound.{IsSound}
use Rattle.redo_core.specs.Meaning.{Meaning, IsMeaning}
use Rattle.redo_core.specs.AtMost.{IsAtMost}
use Rattle.redo_core.specs.declared.facts.Fact.{Fact}
use Rattle.redo_core.specs.declared.facts.Fact.TheVariants.{Advance}
use Rattle.hot_log.specs.Held.{HasKey}
use Rattle.segment_theorems.specs.Means.{Means}
use Rattle.segment_theorems.specs.State.{State}
use Rattle.segment_theorems.specs.Known.{IsKnown}
use Rattle.segment_theorems.specs.HasMeaning.{IsKeptBy}

-- a record that is kept, or needed no more: it is dead, or at or below the anchor and not waiting
abbrev pub HasRecord : State → ℕ → RecordData → Type 0
HasRecord s anchor r = IsKeptBy s anchor r ⊎ (IsDead s.book.cuts s.book.complete r.epoch r.number ⊎ ((r.number ≤ anchor) × (r.epoch ≤ s.book.complete)))

-- so of each record that the lower segment keeps
abbrev pub HasKept : State → ℕ → State → ℕ → RecordData → Type 0
HasKept upper anchor lower base r = IsKeptBy lower base r → HasRecord upper anchor r

abbrev pub HasAllKept : State → ℕ → State → ℕ → Type 0
HasAllKept upper anchor lower base = (r : RecordData) → HasKept upper anchor lower base r

-- so of the record that the lower segment stores under a key
abbrev pub HasAt : State → ℕ → State → Key → Type 0
HasAt upper anchor lower key = (r : RecordData) → Contains lower.held r → HasKey key r → HasRecord upper anchor r

-- that record is stored in the upper segment
abbrev pub IsHeldAt : State → State → Key → Type 0
IsHeldAt upper lower key = (r : RecordData) → Contains lower.held r → HasKey key r → Contains upper.held r

-- each truncation, reader's point and waiting advance of the lower segment is known in the upper one
pub record CoversBook (upper lower : State) : Type 0 where
  pub cuts : (c : CutData) → Contains lower.book.cuts c → Contains upper.book.cuts c
  pub points : AllZip (λ p q. p ≤ q) lower.book.points upper.book.points
  pub waits : (a : AdvanceData) → Contains lower.book.waits a → IsKnown upper (Advance a)

-- the whole of it, at the anchors of both
pub record CoversState (anchor : ℕ) (upper : State) (base : ℕ) (lower : State) : Type 0 where
  pub book : CoversBook upper lower
  pub anchors : base ≤ anchor
  pub kept : HasAllKept upper anchor lower base

-- Inside one sound log: the answer is yes exactly where the lower meaning is at most the upper one.
abbrev pub CoversByParts : State → State → Bool → Type 0
CoversByParts upper lower answer =
    (roster : ℕ) (log F G : List Fact) (y x : Meaning)
    → IsSound roster log → Means roster log F upper → Means roster log G lower → IsMeaning roster F y → IsMeaning roster G x
    → IsTrue answer ↔ IsAtMost roster log x y
