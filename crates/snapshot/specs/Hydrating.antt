-- What the pieces of a staging make.
use Rattle.std.specs.Prelude.{◌≡◌, ◌≢◌, ℕ, ◌⊎◌, ◌↔◌, List, [], ◌∷◌, Some}
use Rattle.std.specs.List.{Contains}
use Rattle.redo_core.specs.Data.{RecordData}
use Rattle.redo_core.specs.Meaning.{ImageData}
use Rattle.redo_core.specs.Writing.{zeros}
use Rattle.messages.specs.Pieces.{PieceData}
use Rattle.messages.specs.declared.pieces.PieceContent.{PieceContent}
use Rattle.messages.specs.declared.pieces.PieceContent.TheVariants.{Head, Page, Records}
use Rattle.segment_theorems.specs.State.{State, version_of, image_of}
use Rattle.segment_theorems.specs.Promises.{KeepsMeaning}
use Rattle.segment_core.specs.Forgetting.{IsSoundState}
use Rattle.snapshot.specs.Snapshots.{SnapshotData, Freezes, IsPieceOf}
use Rattle.snapshot.specs.Stagings.{StagingData, piece_at}
use Rattle.snapshot.specs.Placing.{HasHead}

-- the records that a piece contains, and the page with its page number
abbrev pub records_of : PieceContent → List RecordData
records_of (Head book anchor) = []
records_of (Page p) = []
records_of (Records rs) = rs

abbrev pub pages_of : PieceContent → List (ℕ × List ℕ)
pages_of (Head book anchor) = []
pages_of (Page p) = (p.page, p.bytes) ∷ []
pages_of (Records rs) = []

-- a piece of the staging contains the page
abbrev pub BringsPage : StagingData → ImageData → Type 0
BringsPage st image = (index : ℕ) × (p : PieceData) × (piece_at st index ≡ Some p) × (p.content ≡ Page image)

-- or the record
abbrev pub BringsRecord : StagingData → RecordData → Type 0
BringsRecord st r = (index : ℕ) × (p : PieceData) × (rs : List RecordData) × (piece_at st index ≡ Some p) × (p.content ≡ Records rs) × Contains rs r

-- the bytes are those of the page that a piece contains, or zeros where none does
abbrev pub IsBrought : StagingData → ℕ → List ℕ → Type 0
IsBrought st page bytes =
    ((i : ImageData) × BringsPage st i × (i.page ≡ page) × (i.bytes ≡ bytes))
    ⊎ (((i : ImageData) → BringsPage st i → i.page ≢ page) × (bytes ≡ zeros))

-- the state has the head's book and its anchor as the base point, each page of the pieces, at that version, and just their records
pub record Hydrates (st : StagingData) (s : State) : Type 0 where
  pub head : HasHead st s.book s.base
  pub versions : (page : ℕ) → version_of s.store page ≡ s.base
  pub images : (page : ℕ) → IsBrought st page (image_of s.store page)
  pub held : (r : RecordData) → Contains s.held r ↔ BringsRecord st r

-- the staging takes the pieces of one snapshot of the state
pub record IsOfState (s : State) (d : SnapshotData) (st : StagingData) : Type 0 where
  pub frozen : Freezes s d
  pub name : st.name ≡ d.name
  pub total : st.total ≡ d.total
  pub pieces : (index : ℕ) (p : PieceData) → piece_at st index ≡ Some p → IsPieceOf d p

-- whatever state the pieces are of, the new one means what that means
abbrev pub MeansFrozen : StagingData → State → Type 0
MeansFrozen st new = (s : State) (d : SnapshotData) → IsOfState s d st → KeepsMeaning s new

-- the pieces are of one snapshot of a state that means a part of a sound log
abbrev pub IsOfSoundState : StagingData → Type 0
IsOfSoundState st = (s : State) × (d : SnapshotData) × IsOfState s d st × IsSoundState s
