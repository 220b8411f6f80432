-- How a state learns a fact: steps on what it stores.
use Rattle.std.specs.Prelude.{◌≡◌, ◌⊎◌, ◌↔◌}
use Rattle.std.specs.List.{Contains}
use Rattle.redo_core.specs.Data.{RecordData, CutData, AdvanceData}
use Rattle.redo_core.specs.CompleteEpoch.{IsCompleteEpoch}
use Rattle.redo_core.specs.Learning.{LearnsCut, LearnsAdvance}
use Rattle.segment_theorems.specs.State.{State, SameBase}

-- the book has learnt a truncation, and its complete epoch is that of the new truncations
pub record StoresCut (old : State) (c : CutData) (new : State) : Type 0 where
  pub book : LearnsCut old.book c new.book
  pub epoch : IsCompleteEpoch new.book.cuts new.book.complete
  pub held : new.held ≡ old.held
  pub rest : SameBase old new

-- the book has learnt an advance
pub record StoresAdvance (old : State) (a : AdvanceData) (new : State) : Type 0 where
  pub book : LearnsAdvance old.book a new.book
  pub held : new.held ≡ old.held
  pub rest : SameBase old new

-- there is one more stored record
pub record PutsRecord (old : State) (r : RecordData) (new : State) : Type 0 where
  pub book : new.book ≡ old.book
  pub held : (x : RecordData) → Contains new.held x ↔ (Contains old.held x ⊎ (x ≡ r))
  pub rest : SameBase old new
