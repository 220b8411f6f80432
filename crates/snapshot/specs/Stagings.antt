-- Stagings: the pieces of one snapshot as they come, in any order.
use Rattle.std.specs.Prelude.{◌≡◌, ◌≢◌, ℕ, ◌<◌, ◌⊎◌, List, Option, Some, None}
use Rattle.std.specs.Ordering.{nat_cmp}
use Rattle.std.specs.BTreeMap.{is_at}
use Rattle.std.specs.Map.{lookup}
use Rattle.messages.specs.Pieces.{PieceData, IsPiece}
use Rattle.snapshot.specs.declared.staging.AddFault.{AddFault}
use Rattle.snapshot.specs.declared.staging.AddFault.TheVariants.{Stranger, Double, Memory}

-- the name of the snapshot, how many pieces it has, and those that came, by index
pub record StagingData : Type 0 where
  pub name : ℕ
  pub total : ℕ
  pub pieces : List (ℕ × PieceData)

abbrev pub staging_of : ℕ → ℕ → List (ℕ × PieceData) → StagingData
staging_of name total pieces = record { name = name; total = total; pieces = pieces }

-- the piece of an index, or none where it has not come
abbrev pub piece_at : StagingData → ℕ → Option PieceData
piece_at st index = lookup (is_at (nat_cmp index)) st.pieces

-- the piece is of another name or total
abbrev pub IsStranger : StagingData → PieceData → Type 0
IsStranger st p = (p.name ≢ st.name) ⊎ (p.total ≢ st.total)

-- each piece is stored under its own index, is of the staging's name and total, and has the shape of a piece
abbrev pub IsStaging : StagingData → Type 0
IsStaging st = (index : ℕ) (p : PieceData) → piece_at st index ≡ Some p → (p.index ≡ index) × (IsStranger st p → ⊥) × IsPiece p

-- the piece has come, and all others are as they were
pub record Adds (old : StagingData) (p : PieceData) (new : StagingData) : Type 0 where
  pub name : new.name ≡ old.name
  pub total : new.total ≡ old.total
  pub absent : piece_at old p.index ≡ None
  pub there : piece_at new p.index ≡ Some p
  pub others : (index : ℕ) → index ≢ p.index → piece_at new index ≡ piece_at old index

-- why a piece is refused: it is of another snapshot; or else one of its index has come; or else memory runs out
abbrev pub RefusesPiece : StagingData → PieceData → AddFault → Type 0
RefusesPiece st p Stranger = IsStranger st p
RefusesPiece st p (Double index) = (IsStranger st p → ⊥) × (index ≡ p.index) × ((q : PieceData) × (piece_at st index ≡ Some q))
RefusesPiece st p Memory = (IsStranger st p → ⊥) × (piece_at st p.index ≡ None)

-- A piece that has not come. Where the total is 0 that is the head: each snapshot has one.
abbrev pub IsMissingPiece : StagingData → ℕ → Type 0
IsMissingPiece st index = ((index < st.total) ⊎ (index ≡ 0)) × (piece_at st index ≡ None)
