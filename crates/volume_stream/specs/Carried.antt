-- Which requests and replies are read back from their frames.
use Rattle.std.specs.Prelude.{◌≡◌, ℕ, ◌+◌, ◌≤◌, Option, Some, None, Ok, length}
use Rattle.redo_core.specs.Shape.{max_number}
use Rattle.segment_core.specs.declared.answers.Front.{Front}
use Rattle.redo_wire.specs.Facts.{IsWireFact, IsWireCut}
use Rattle.redo_wire.specs.Summaries.{IsWireSummary, summary_bytes}
use Rattle.redo_wire.specs.Deltas.{IsWireDelta, delta_bytes}
use Rattle.replica.specs.declared.requests.Request.{Request as SegmentRequest}
use Rattle.replica.specs.declared.requests.Request.TheVariants as asked
use Rattle.replica.specs.declared.replies.Reply.{Reply as SegmentReply}
use Rattle.replica.specs.declared.replies.Reply.TheVariants as told
use Rattle.guard.specs.declared.requests.AcceptedCut.{AcceptedCut}
use Rattle.guard.specs.declared.requests.Admission.{Admission}
use Rattle.guard.specs.declared.requests.Request.{Request}
use Rattle.guard.specs.declared.requests.Request.TheVariants as request
use Rattle.guard.specs.declared.replies.Reply.{Reply}
use Rattle.guard.specs.declared.replies.Reply.TheVariants as reply
use Rattle.node_stream.specs.Asking.{guard_asked}
use Rattle.node_stream.specs.GuardReading.{max_wide, guard_request}
use Rattle.node_stream.specs.GuardTelling.{guard_frame}
use Rattle.node_stream.specs.declared.asked.Window.{Window}
use Rattle.node_stream.specs.declared.job.Form.TheVariants as stream
use Rattle.volume_stream.specs.RequestFrames.{request_frame}
use Rattle.volume_stream.specs.ReplyFrames.{reply_in}

-- ---- numbers within their limits
-- a generation, and a birth or another generation
abbrev pub AreWide : ℕ → ℕ → Type 0
AreWide one other = (one ≤ max_wide) × (other ≤ max_wide)

abbrev pub IsPoint : ℕ → ℕ → Type 0
IsPoint epoch number = (epoch ≤ 65535) × (number ≤ max_number)

abbrev pub IsWireFront : Front → Type 0
IsWireFront f = IsPoint f.epoch f.complete × (f.min ≤ max_number)

abbrev pub IsWirePair : Option AcceptedCut → Type 0
IsWirePair None = Unit {0}
IsWirePair (Some pair) = (pair.generation ≤ max_wide) × IsWireCut pair.cut

-- ---- what engines ask
-- a request of a segment that an engine makes; there is room in a frame for its values
abbrev pub IsCarriedSegment : SegmentRequest → Type 0
IsCarriedSegment (asked.Take f) = IsWireFact f
IsCarriedSegment asked.Front = Unit {0}
IsCarriedSegment asked.Ask = Unit {0}
IsCarriedSegment (asked.Answer s) = IsWireSummary s
IsCarriedSegment (asked.Absorb s d) = IsWireSummary s × IsWireDelta d × (length (summary_bytes s) ≤ 4294967295)
IsCarriedSegment other = ⊥

abbrev pub IsCarriedAdmission : Admission → Type 0
IsCarriedAdmission a = AreWide a.generation a.birth × IsPoint a.epoch a.complete × IsWirePair a.accepted

abbrev pub IsCarriedRequest : Request → Type 0
IsCarriedRequest request.Status = Unit {0}
IsCarriedRequest (request.Fence generation) = generation ≤ max_wide
IsCarriedRequest (request.As generation birth a) = AreWide generation birth × IsCarriedSegment a
IsCarriedRequest (request.Propose generation birth cut) = AreWide generation birth × IsWireCut cut
IsCarriedRequest (request.Admit a) = IsCarriedAdmission a
IsCarriedRequest (request.Plain a) = IsCarriedSegment a

-- a node reads in the frame of a request that request
abbrev pub RequestsAreRead : Type 0
RequestsAreRead = (r : Request) → IsCarriedRequest r → guard_request stream.Frames (request_frame r) ≡ Ok (guard_asked r)

-- ---- to what engines listen
-- a reply of a segment; a value has room in a frame behind a generation and a birth
abbrev pub IsHeardSegment : SegmentReply → Type 0
IsHeardSegment told.Changed = Unit {0}
IsHeardSegment told.Unchanged = Unit {0}
IsHeardSegment told.Absorbed = Unit {0}
IsHeardSegment (told.Front f) = IsWireFront f
IsHeardSegment (told.Summary s) = IsWireSummary s × (length (summary_bytes s) + 64 ≤ 4294967295)
IsHeardSegment (told.Delta d) = IsWireDelta d × (length (delta_bytes d) + 64 ≤ 4294967295)
IsHeardSegment other = ⊥

abbrev pub IsHeardReply : Reply → Type 0
IsHeardReply (reply.Status generation birth is_member front accepted) = AreWide generation birth × IsWireFront front × IsWirePair accepted
IsHeardReply (reply.Fenced generation birth accepted) = AreWide generation birth × IsWirePair accepted
IsHeardReply (reply.Stale generation) = generation ≤ max_wide
IsHeardReply (reply.Fresh birth) = birth ≤ max_wide
IsHeardReply (reply.Headed generation birth own) = AreWide generation birth × IsHeardSegment own
IsHeardReply (reply.Accepted generation birth epoch) = AreWide generation birth × (epoch ≤ 65535)
IsHeardReply (reply.Admitted generation birth) = AreWide generation birth
IsHeardReply reply.Member = Unit {0}
IsHeardReply (reply.Stranger birth) = birth ≤ max_wide
IsHeardReply (reply.Behind epoch complete) = IsPoint epoch complete
IsHeardReply other = ⊥

-- an engine reads in the frame of a node's reply that reply
abbrev pub RepliesAreRead : Type 0
RepliesAreRead = (w : Window) (r : Reply) → IsHeardReply r → reply_in (guard_frame w r) ≡ Some r
