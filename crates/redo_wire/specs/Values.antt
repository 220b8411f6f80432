-- Values of any kind: a fact, a summary, a delta or a piece. The first byte determines which.
use Rattle.std.specs.Prelude.{ℕ, Bool, List, [], ◌∷◌, Result, Ok, Err, ◌==◌, ◌||◌, if◌then◌else◌}
use Rattle.redo_wire.specs.declared.faults.WireFault.{WireFault}
use Rattle.redo_wire.specs.declared.faults.WireFault.TheVariants.{Short}
use Rattle.redo_wire.specs.declared.values.WireValue.{WireValue}
use Rattle.redo_wire.specs.declared.values.WireValue.TheVariants.{Fact, Summary, Delta, Piece}
use Rattle.redo_wire.specs.Tags.{summary_tag, roster_summary_tag, delta_tag, roster_delta_tag, piece_tag, roster_piece_tag}
use Rattle.redo_wire.specs.Facts.{EncodesFact}
use Rattle.redo_wire.specs.FactReading.{decoded_fact}
use Rattle.redo_wire.specs.Summaries.{EncodesSummary}
use Rattle.redo_wire.specs.SummaryReading.{decoded_summary}
use Rattle.redo_wire.specs.Deltas.{EncodesDelta}
use Rattle.redo_wire.specs.DeltaReading.{decoded_delta}
use Rattle.redo_wire.specs.Pieces.{EncodesPiece}
use Rattle.redo_wire.specs.PieceReading.{decoded_piece}

-- the bytes encode the value
abbrev pub EncodesValue : WireValue → List ℕ → Type 0
EncodesValue (Fact f) bytes = EncodesFact f bytes
EncodesValue (Summary s) bytes = EncodesSummary s bytes
EncodesValue (Delta d) bytes = EncodesDelta d bytes
EncodesValue (Piece p) bytes = EncodesPiece p bytes

-- ---- reading

abbrev pub is_summary_tag : ℕ → Bool
is_summary_tag tag = tag == summary_tag || tag == roster_summary_tag

abbrev pub is_delta_tag : ℕ → Bool
is_delta_tag tag = tag == delta_tag || tag == roster_delta_tag

abbrev pub is_piece_tag : ℕ → Bool
is_piece_tag tag = tag == piece_tag || tag == roster_piece_tag

-- what was decoded, as a value of any kind
abbrev pub valued : {A : Type 0} → (A → WireValue) → Result A WireFault → Result WireValue WireFault
valued kind (Ok x) = Ok (kind x)
valued kind (Err f) = Err f

-- the value that all of the bytes encode, or the first fault: what the decoder of the first byte returns
abbrev pub decoded_value : List ℕ → Result WireValue WireFault
decoded_value [] = Err Short
decoded_value (tag ∷ rest) =
    if is_summary_tag tag then valued Summary (decoded_summary (tag ∷ rest))
    else if is_delta_tag tag then valued Delta (decoded_delta (tag ∷ rest))
    else if is_piece_tag tag then valued Piece (decoded_piece (tag ∷ rest))
    else valued Fact (decoded_fact (tag ∷ rest))
