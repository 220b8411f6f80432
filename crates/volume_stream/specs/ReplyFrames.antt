-- The reply that a node's answer encodes, where an engine listens to it.
use Rattle.std.specs.Prelude.{ℕ, ◌==◌, List, [], ◌∷◌, Option, Some, None, Result, Ok, Err, codes, bytes_eq, if◌then◌else◌}
use Rattle.redo_core.specs.Data.{cut_of}
use Rattle.redo_core.specs.Shape.{max_number, cut_fault}
use Rattle.segment_core.specs.declared.answers.Front.{Front}
use Rattle.redo_wire.specs.SummaryReading.{decoded_summary}
use Rattle.redo_wire.specs.DeltaReading.{decoded_delta}
use Rattle.redo_wire.specs.declared.faults.WireFault.{WireFault}
use Rattle.replica.specs.declared.replies.Reply.{Reply as SegmentReply}
use Rattle.replica.specs.declared.replies.Reply.TheVariants as segment
use Rattle.guard.specs.declared.requests.AcceptedCut.{AcceptedCut}
use Rattle.guard.specs.declared.replies.Reply.{Reply}
use Rattle.guard.specs.declared.replies.Reply.TheVariants as reply
use Rattle.text.specs.Parts.{◌>>=◌}
use Rattle.text.specs.Fields.{Form, form, of_one, of_two, of_three}
use Rattle.node_stream.specs.FrameReading.{halves}
use Rattle.node_stream.specs.GuardReading.{max_wide, faultless, either_of, wide_front}
use Rattle.volume_stream.specs.Words.{made_of, of_six, of_ten}

-- ---- accepted truncations
-- the truncation of these numbers, and who proposed it, unless its shape has a fault
abbrev pub pair_of : ℕ → ℕ → ℕ → ℕ → Option AcceptedCut
pair_of by epoch lo hi = faultless (cut_fault (cut_of epoch lo hi)) (record { generation = by; cut = cut_of epoch lo hi })

-- what follows with that truncation
abbrev pub with_pair : ℕ → ℕ → ℕ → ℕ → (Option AcceptedCut → Reply) → Option Reply
with_pair by epoch lo hi make = pair_of by epoch lo hi >>= (λ pair. Some (make (Some pair)))

-- ---- words and numbers
abbrev pub front_of : ℕ → ℕ → ℕ → Front
front_of epoch complete min = record { epoch = epoch; complete = complete; min = min }

-- a member has the number 1
abbrev pub status_of : ℕ → ℕ → ℕ → Front → Option AcceptedCut → Reply
status_of generation birth member front accepted = reply.Status generation birth (member == 1) front accepted

abbrev pub status_form : Form Reply
status_form = form (codes "status") (max_wide ∷ max_wide ∷ 1 ∷ 65535 ∷ max_number ∷ max_number ∷ [])
    (of_six (λ generation birth member epoch complete min. Some (status_of generation birth member (front_of epoch complete min) None)))

abbrev pub status_with_form : Form Reply
status_with_form = form (codes "status")
    (max_wide ∷ max_wide ∷ 1 ∷ 65535 ∷ max_number ∷ max_number ∷ max_wide ∷ 65535 ∷ max_number ∷ max_number ∷ [])
    (of_ten (λ generation birth member epoch complete min by next lo hi.
    with_pair by next lo hi (status_of generation birth member (front_of epoch complete min))))

abbrev pub fenced_form : Form Reply
fenced_form = form (codes "fenced") (max_wide ∷ max_wide ∷ [])
    (of_two (λ generation birth. Some (reply.Fenced generation birth None)))

abbrev pub fenced_with_form : Form Reply
fenced_with_form = form (codes "fenced") (max_wide ∷ max_wide ∷ max_wide ∷ 65535 ∷ max_number ∷ max_number ∷ [])
    (of_six (λ generation birth by epoch lo hi. with_pair by epoch lo hi (reply.Fenced generation birth)))

abbrev pub stale_form : Form Reply
stale_form = form (codes "stale") (max_wide ∷ []) (of_one (λ generation. Some (reply.Stale generation)))

abbrev pub fresh_form : Form Reply
fresh_form = form (codes "fresh") (max_wide ∷ []) (of_one (λ birth. Some (reply.Fresh birth)))

abbrev pub stranger_form : Form Reply
stranger_form = form (codes "stranger") (max_wide ∷ []) (of_one (λ birth. Some (reply.Stranger birth)))

abbrev pub admitted_form : Form Reply
admitted_form = form (codes "admitted") (max_wide ∷ max_wide ∷ []) (of_two (λ generation birth. Some (reply.Admitted generation birth)))

abbrev pub behind_form : Form Reply
behind_form = form (codes "behind") (65535 ∷ max_number ∷ []) (of_two (λ epoch complete. Some (reply.Behind epoch complete)))

abbrev pub accepted_form : Form Reply
accepted_form = form (codes "accepted") (max_wide ∷ max_wide ∷ 65535 ∷ [])
    (of_three (λ generation birth epoch. Some (reply.Accepted generation birth epoch)))

-- with an accepted truncation or without
unfoldable pub status_reply : List ℕ → Option Reply
status_reply rest = either_of (made_of status_form rest) (made_of status_with_form rest)

unfoldable pub fenced_reply : List ℕ → Option Reply
fenced_reply rest = either_of (made_of fenced_form rest) (made_of fenced_with_form rest)

-- one to three numbers
unfoldable pub short_reply : List ℕ → List ℕ → Option Reply
short_reply word rest =
    if bytes_eq word (codes "stale") then made_of stale_form rest
    else if bytes_eq word (codes "fresh") then made_of fresh_form rest
    else if bytes_eq word (codes "stranger") then made_of stranger_form rest
    else if bytes_eq word (codes "admitted") then made_of admitted_form rest
    else if bytes_eq word (codes "behind") then made_of behind_form rest
    else if bytes_eq word (codes "accepted") then made_of accepted_form rest
    else None

unfoldable pub numbered_reply : List ℕ → List ℕ → Option Reply
numbered_reply word rest =
    if bytes_eq word (codes "status") then status_reply rest
    else if bytes_eq word (codes "fenced") then fenced_reply rest
    else short_reply word rest

-- ---- replies of a segment
-- the value that bytes encode
abbrev pub decoded_as : {A : Type 0} → Result A WireFault → (A → SegmentReply) → Option SegmentReply
decoded_as (Ok value) make = Some (make value)
decoded_as (Err f) make = None

abbrev pub front_form : Form SegmentReply
front_form = form (codes "front") (65535 ∷ max_number ∷ max_number ∷ [])
    (of_three (λ epoch complete min. Some (segment.Front (front_of epoch complete min))))

unfoldable pub lone_segment_reply : List ℕ → Option SegmentReply
lone_segment_reply text =
    if bytes_eq text (codes "changed") then Some segment.Changed
    else if bytes_eq text (codes "unchanged") then Some segment.Unchanged
    else if bytes_eq text (codes "absorbed") then Some segment.Absorbed
    else None

unfoldable pub segment_words : List ℕ → Option (List ℕ × List ℕ) → Option SegmentReply
segment_words text None = lone_segment_reply text
segment_words text (Some (word, rest)) =
    if bytes_eq word (codes "front") then made_of front_form rest
    else if bytes_eq word (codes "summary") then decoded_as (decoded_summary rest) segment.Summary
    else if bytes_eq word (codes "delta") then decoded_as (decoded_delta rest) segment.Delta
    else None

abbrev pub segment_reply : List ℕ → Option SegmentReply
segment_reply text = segment_words text (halves text)

-- ---- replies of a guard
-- under a generation, in a birth of the node
abbrev pub under_birth : ℕ → Option (ℕ × List ℕ) → Option Reply
under_birth generation None = None
under_birth generation (Some (birth, text)) = segment_reply text >>= (λ told. Some (reply.Headed generation birth told))

abbrev pub under_generation : Option (ℕ × List ℕ) → Option Reply
under_generation None = None
under_generation (Some (generation, text)) = under_birth generation (wide_front text)

unfoldable pub headed_reply : List ℕ → Option Reply
headed_reply text = under_generation (wide_front text)

unfoldable pub lone_reply : List ℕ → Option Reply
lone_reply text = if bytes_eq text (codes "member") then Some reply.Member else None

unfoldable pub reply_words : List ℕ → Option (List ℕ × List ℕ) → Option Reply
reply_words text None = lone_reply text
reply_words text (Some (word, rest)) = if bytes_eq word (codes "as") then headed_reply rest else numbered_reply word rest

-- the reply that an answer encodes; None where no engine listens to it
abbrev pub reply_in : List ℕ → Option Reply
reply_in text = reply_words text (halves text)
