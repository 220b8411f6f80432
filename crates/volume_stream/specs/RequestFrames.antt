-- The frame of a request that an engine makes.
use Rattle.std.specs.Prelude.{ℕ, Bool, List, [], ◌∷◌, ◌++◌, Option, Some, None, length, codes, if◌then◌else◌}
use Rattle.messages.specs.Summaries.{SummaryData}
use Rattle.messages.specs.Deltas.{DeltaData}
use Rattle.redo_wire.specs.Facts.{fact_bytes}
use Rattle.redo_wire.specs.Summaries.{summary_bytes, is_long_summary}
use Rattle.redo_wire.specs.Deltas.{delta_bytes, is_long_delta}
use Rattle.replica.specs.declared.requests.Request.{Request as SegmentRequest}
use Rattle.replica.specs.declared.requests.Request.TheVariants as segment
use Rattle.guard.specs.declared.requests.Admission.{Admission}
use Rattle.guard.specs.declared.requests.Request.{Request}
use Rattle.guard.specs.declared.requests.Request.TheVariants as guard
use Rattle.node_stream.specs.GuardTelling.{pair_numbers}
use Rattle.volume_stream.specs.Words.{followed}
use Rattle.node_stream.specs.Telling.{numbers_behind, numbered}

-- what a node answers `bad request`: it stands for a request that no engine makes, and for a value that has no bytes
abbrev pub no_request : List ℕ
no_request = codes "no request"

-- the bytes of a value, unless a list of it is longer than its count field holds
abbrev pub bytes_unless : Bool → List ℕ → Option (List ℕ)
bytes_unless is_long bytes = if is_long then None else Some bytes

abbrev pub summary_in_bytes : SummaryData → Option (List ℕ)
summary_in_bytes s = bytes_unless (is_long_summary s) (summary_bytes s)

abbrev pub delta_in_bytes : DeltaData → Option (List ℕ)
delta_in_bytes d = bytes_unless (is_long_delta d) (delta_bytes d)

-- ---- requests of a segment
abbrev pub answer_frame : Option (List ℕ) → List ℕ
answer_frame None = no_request
answer_frame (Some shown) = codes "answer " ++ shown

-- the number of the summary's bytes, these and those of the delta
abbrev pub absorb_bytes : List ℕ → List ℕ → List ℕ
absorb_bytes shown answered = followed (codes "absorb") (length shown ∷ []) (shown ++ answered)

abbrev pub absorb_frame : Option (List ℕ) → Option (List ℕ) → List ℕ
absorb_frame (Some shown) (Some answered) = absorb_bytes shown answered
absorb_frame _ _ = no_request

abbrev pub segment_frame : SegmentRequest → List ℕ
segment_frame (segment.Take f) = codes "take " ++ fact_bytes f
segment_frame segment.Front = codes "front"
segment_frame segment.Ask = codes "ask"
segment_frame (segment.Answer s) = answer_frame (summary_in_bytes s)
segment_frame (segment.Absorb s d) = absorb_frame (summary_in_bytes s) (delta_in_bytes d)
segment_frame other = no_request

-- ---- requests of a guard
-- an admission, and the numbers of the truncation that the node is to have accepted
abbrev pub admission_frame : Admission → List ℕ
admission_frame a =
    numbered (codes "admit") (a.generation ∷ a.birth ∷ a.epoch ∷ a.complete ∷ []) ++ numbers_behind (pair_numbers a.accepted)

abbrev pub request_frame : Request → List ℕ
request_frame guard.Status = codes "status"
request_frame (guard.Fence generation) = numbered (codes "fence") (generation ∷ [])
request_frame (guard.As generation birth asked) = followed (codes "as") (generation ∷ birth ∷ []) (segment_frame asked)
request_frame (guard.Propose generation birth cut) =
    numbered (codes "propose") (generation ∷ birth ∷ cut.epoch ∷ cut.lo ∷ cut.hi ∷ [])
request_frame (guard.Admit a) = admission_frame a
request_frame (guard.Plain asked) = segment_frame asked
