-- How many bytes a reply has.
use Rattle.std.specs.Prelude.{◌≡◌, ℕ, length}
use Rattle.messages.specs.Summaries.{SummaryData}
use Rattle.messages.specs.Deltas.{DeltaData}
use Rattle.redo_wire.specs.Deltas.{delta_bytes}
use Rattle.segment_theorems.specs.State.{State}
use Rattle.gossip_core.specs.Replying.{AnswersSummary, FillsSummary}

-- so many bytes encode a delta on the wire
abbrev pub delta_len : DeltaData → ℕ
delta_len d = length (delta_bytes d)

-- the size of such a delta
abbrev pub IsSizeOf : (DeltaData → Type 0) → ℕ → Type 0
IsSizeOf Sends size = (d : DeltaData) × Sends d × (size ≡ delta_len d)

-- the delta that answers the summary, and its size
pub record IsReplySize (s : State) (summary : SummaryData) (size : ℕ) : Type 0 where
  pub delta : DeltaData
  pub answers : AnswersSummary s summary delta
  pub fills : FillsSummary s summary delta
  pub is : size ≡ delta_len delta
