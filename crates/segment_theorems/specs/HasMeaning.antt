-- What a state determines by itself: its position and its meaning.
use Rattle.std.specs.Prelude.{◌≡◌, ◌≢◌, ℕ, ◌<◌, ◌≤◌, ◌⊎◌}
use Rattle.std.specs.List.{Contains}
use Rattle.redo_core.specs.Data.{RecordData}
use Rattle.redo_core.specs.Order.{IsGreatest, Lists, CutBefore, AdvanceBefore, RecordBefore}
use Rattle.redo_core.specs.CompleteEpoch.{IsCompleteEpoch}
use Rattle.redo_core.specs.Standing.{IsAlive, IsWaiting}
use Rattle.redo_core.specs.Linked.{Linked}
use Rattle.redo_core.specs.Position.{Position}
use Rattle.redo_core.specs.Writing.{zeros}
use Rattle.redo_core.specs.Meaning.{Meaning, ImageBefore}
use Rattle.segment_theorems.specs.State.{State, min_of}
use Rattle.segment_theorems.specs.Shows.{Shows}

-- n is linked from the base point on, by the records that the state stores
abbrev pub IsLinkedIn : State → ℕ → Type 0
IsLinkedIn s n = Linked s.book.cuts s.held s.book.complete s.base n

-- the greatest of those LSNs
abbrev pub HasComplete : State → ℕ → Type 0
HasComplete s complete = IsGreatest (IsLinkedIn s) complete

-- the greatest of them up to the minimum read point
abbrev pub HasAnchor : State → ℕ → Type 0
HasAnchor s anchor = IsGreatest (λ n. IsLinkedIn s n × (n ≤ min_of s)) anchor

-- n is at or below the anchor
abbrev pub IsStable : State → ℕ → Type 0
IsStable s n = (linked : ℕ) × IsLinkedIn s linked × (linked ≤ min_of s) × (n ≤ linked)

pub record HasPosition (s : State) (p : Position) : Type 0 where
  pub epoch : s.book.complete ≡ p.epoch
  pub complete : HasComplete s p.complete
  pub points : s.book.points ≡ p.points
  pub min : min_of s ≡ p.min
  pub anchor : HasAnchor s p.anchor

-- a stored record is kept where it is alive above the anchor, or waits
abbrev pub IsKeptBy : State → ℕ → RecordData → Type 0
IsKeptBy s anchor r =
    Contains s.held r × (IsWaiting s.book.complete r.epoch ⊎ (IsAlive s.book.cuts s.book.complete r.epoch r.number × (anchor < r.number)))

-- the meaning of a state, computed from what it stores
pub record HasMeaning (s : State) (m : Meaning) : Type 0 where
  pub epoch : IsCompleteEpoch s.book.cuts s.book.complete
  pub same_cuts : Lists CutBefore (Contains s.book.cuts) m.cuts
  pub same_points : m.points ≡ s.book.points
  pub same_waits : Lists AdvanceBefore (Contains s.book.waits) m.waits
  pub anchor : HasAnchor s m.anchor
  pub pages : Lists ImageBefore (λ i. Shows s i.page m.anchor i.bytes × (i.bytes ≢ zeros)) m.pages
  pub kept : Lists RecordBefore (IsKeptBy s m.anchor) m.kept
