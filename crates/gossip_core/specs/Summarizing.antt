-- Summaries of states and of meanings.
use Rattle.std.specs.Prelude.{◌≡◌, List, map}
use Rattle.redo_core.specs.Data.{RecordData}
use Rattle.redo_core.specs.Keys.{key_of}
use Rattle.redo_core.specs.Order.{Lists, RecordBefore}
use Rattle.redo_core.specs.CompleteEpoch.{IsCompleteEpoch}
use Rattle.redo_core.specs.Meaning.{Meaning}
use Rattle.messages.specs.Summaries.{SummaryData}
use Rattle.segment_theorems.specs.State.{State}
use Rattle.segment_theorems.specs.HasMeaning.{HasAnchor, IsKeptBy}

-- the summary of a state: its book, its anchor, and the keys of its kept records, rising
pub record Summarizes (s : State) (summary : SummaryData) : Type 0 where
  pub book : summary.book ≡ s.book
  pub anchor : HasAnchor s summary.anchor
  pub kept : List RecordData
  pub kept_are : Lists RecordBefore (IsKeptBy s summary.anchor) kept
  pub keys : summary.keys ≡ map key_of kept

-- the summary of a meaning: all of it but its pages, and the keys alone of its kept records
pub record IsSummaryOf (m : Meaning) (summary : SummaryData) : Type 0 where
  pub cuts : summary.book.cuts ≡ m.cuts
  pub complete : IsCompleteEpoch m.cuts summary.book.complete
  pub points : summary.book.points ≡ m.points
  pub waits : summary.book.waits ≡ m.waits
  pub anchor : summary.anchor ≡ m.anchor
  pub keys : summary.keys ≡ map key_of m.kept
