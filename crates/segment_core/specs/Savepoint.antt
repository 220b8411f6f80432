-- What a segment is rolled back to, while it takes facts that may yet be refused.
use Rattle.std.specs.Prelude.{◌≡◌, List, [], ◌∷◌, ◌++◌, Bool, not, ◌&&◌, eqb}
use Rattle.std.specs.Borrow.{GName}
use Rattle.std.specs.List.{filter}
use Rattle.redo_core.specs.Book.{BookData}
use Rattle.redo_core.specs.declared.keys.Key.{Key}
use Rattle.redo_core.specs.Data.{RecordData}
use Rattle.segment_theorems.specs.State.{State, state_of}
use Rattle.segment_core.specs.PendingPages.{PendingData, HasPending}
use Rattle.segment_core.specs.Form.{IsSegment}
use Rattle.segment_core.specs.Points.{HasPoints}
use Rattle.segment_core.specs.declared.points.Points.{Points}

-- the book, the points and the pending pages as they were, and the keys of the records that have come in after that
pub record SavepointData : Type 0 where
  pub book : BookData
  pub points : Points
  pub due : PendingData
  pub came : List Key

-- one more key is noted
abbrev pub NotesKey : SavepointData → Key → SavepointData → Type 0
NotesKey saved key noted = noted ≡ record { book = saved.book; points = saved.points; due = saved.due; came = saved.came ++ key ∷ [] }

-- whether a record has a key
abbrev pub has_key : Key → RecordData → Bool
has_key key r = eqb key.epoch r.epoch && eqb key.number r.number

-- the records that have none of these keys
unfoldable pub without : List Key → List RecordData → List RecordData
without [] held = held
without (key ∷ keys) held = without keys (filter (λ r. not (has_key key r)) held)

-- what a savepoint rolls a state back to: the saved book, and the records that were there before
abbrev pub brought_back : SavepointData → State → State
brought_back saved s = state_of saved.book (without saved.came s.held) s.base s.store

-- What a merge transaction began with: which segment it borrows, its state, and the points and the pending pages of that.
pub record Began : Type 0 where
  pub lent : GName
  pub state : State
  pub points : Points
  pub due : PendingData

abbrev pub began_by : GName → SavepointData → State → Began
began_by lent saved s = record { lent = lent; state = brought_back saved s; points = saved.points; due = saved.due }

-- the state has the form of a segment's, and these are its points and its pending pages
pub record IsFormOf (s : State) (points : Points) (due : PendingData) : Type 0 where
  pub form : IsSegment s
  pub points_are : HasPoints s.book s.held s.base points
  pub due_are : HasPending s.book s.held s.store due

abbrev pub CanRollBack : Began → Type 0
CanRollBack b = IsFormOf b.state b.points b.due

-- it was taken of the state as it is, and nothing has come in after that
pub record IsSavepointOf (s : State) (saved : SavepointData) : Type 0 where
  pub book : saved.book ≡ s.book
  pub came : saved.came ≡ []
  pub whole : IsFormOf s saved.points saved.due
