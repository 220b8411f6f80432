-- What a reply says, in lines and in frames.
use Rattle.std.specs.Prelude.{ℕ, Bool, List, [], ◌∷◌, ◌++◌, length, take, drop, nat_lt, codes, if◌then◌else◌}
use Rattle.std.specs.Fmt.{decimal}
use Rattle.hex.specs.Hex.{encode_lower}
use Rattle.redo_wire.specs.Faults.{fault_number}
use Rattle.redo_wire.specs.Facts.{fact_bytes}
use Rattle.redo_wire.specs.Summaries.{summary_bytes, is_long_summary}
use Rattle.redo_wire.specs.Deltas.{delta_bytes, is_long_delta}
use Rattle.redo_wire.specs.Pieces.{piece_bytes, is_long_piece}
use Rattle.redo_core.specs.declared.facts.Fact.TheVariants as fact
use Rattle.epoch_book.specs.declared.refusals.Held.{Held}
use Rattle.epoch_book.specs.declared.refusals.Held.TheVariants as held
use Rattle.gossip_core.specs.declared.answering.Shown.{Shown}
use Rattle.gossip_core.specs.declared.answering.Shown.TheVariants as shown
use Rattle.segment_core.specs.declared.answers.Gap.{Gap}
use Rattle.segment_core.specs.declared.answers.Gap.TheVariants as gap
use Rattle.segment_core.specs.declared.answers.Refusal.{Refusal}
use Rattle.segment_core.specs.declared.answers.Refusal.TheVariants as refusal
use Rattle.replica.specs.declared.replies.Reply.{Reply}
use Rattle.replica.specs.declared.replies.Reply.TheVariants as reply
use Rattle.replica.specs.declared.replies.Status.{Status}
use Rattle.node_stream.specs.declared.asked.Window.{Window}
use Rattle.node_stream.specs.declared.faults.LineFault.{LineFault}
use Rattle.node_stream.specs.declared.faults.LineFault.TheVariants as fault
use Rattle.node_stream.specs.declared.job.Form.{Form}
use Rattle.node_stream.specs.declared.job.Form.TheVariants.{Lines, Frames}

-- ---- words and numbers
-- numbers, each after a space
abbrev pub numbers_behind : List ℕ → List ℕ
numbers_behind [] = []
numbers_behind (n ∷ ns) = codes " " ++ (decimal n ++ numbers_behind ns)

abbrev pub numbered : List ℕ → List ℕ → List ℕ
numbered words ns = words ++ numbers_behind ns

-- why a fact or a delta is refused; another truncation of an epoch that has one has a text of its own, apart from that of one which what
-- came contradicts
abbrev pub held_text : Held → List ℕ
held_text (held.Min point) = numbered (codes "refused by least") (point ∷ [])
held_text (held.Advance a) = numbered (codes "refused by min") (a.epoch ∷ a.point ∷ a.reader ∷ [])
held_text (held.Cut c) = numbered (codes "refused by cut") (c.epoch ∷ c.lo ∷ c.hi ∷ [])

abbrev pub refusal_text : Refusal → List ℕ
refusal_text (refusal.OtherRoster own shown) = numbered (codes "refused by roster") (own ∷ shown ∷ [])
refusal_text (refusal.OtherCut c) = numbered (codes "refused by other cut") (c.epoch ∷ c.lo ∷ c.hi ∷ [])
refusal_text (refusal.Contradiction what) = held_text what
refusal_text refusal.OtherRecord = codes "refused by record"
refusal_text refusal.Memory = codes "refused by memory"

-- what the complete point waits for
abbrev pub gap_text : Gap → List ℕ
gap_text (gap.Record number) = numbered (codes "gap record") (number ∷ [])
gap_text (gap.Truncation epoch) = numbered (codes "gap truncation") (epoch ∷ [])

-- what of a summary is not answered for
abbrev pub shown_text : Shown → List ℕ
shown_text (shown.Anchor anchor) = numbered (codes "uncovered anchor") (anchor ∷ [])
shown_text (shown.Key key) = numbered (codes "uncovered key") (key.epoch ∷ key.number ∷ [])

-- what is stored, in numbers
abbrev pub status_start : Status → List ℕ
status_start s = codes "state epoch " ++ (decimal s.epoch ++ (codes " complete " ++ (decimal s.complete
    ++ (codes " min " ++ (decimal s.min ++ (codes " anchor " ++ (decimal s.anchor ++ (codes " base " ++ decimal s.base))))))))

abbrev pub status_end : Status → List ℕ
status_end s = codes " held " ++ (decimal s.held ++ (codes " kept " ++ (decimal s.kept ++ (codes " images " ++ (decimal s.images
    ++ (codes " cuts " ++ (decimal s.truncations ++ (codes " waits " ++ decimal s.waiting))))))))

-- ---- replies
-- The body of a reply: a text, or a word and bytes.
pub data BodyData : Type 0 where
  Text : List ℕ → BodyData
  Raw : List ℕ → List ℕ → BodyData

-- a value of the wire, unless a list of it is longer than its count field holds
unfoldable pub value_body : List ℕ → Bool → List ℕ → BodyData
value_body word is_long bytes = if is_long then Text (word ++ codes " too long") else Raw word bytes

-- the bytes of a page that are shown
abbrev pub window_of : Window → List ℕ → List ℕ
window_of w image = take w.len (drop w.offset image)

-- the body of a reply; a page is shown through the window
abbrev pub body_of : Window → Reply → BodyData
body_of w reply.Opened = Text (codes "opened")
body_of w reply.Changed = Text (codes "changed")
body_of w reply.Unchanged = Text (codes "unchanged")
body_of w (reply.Refused why) = Text (refusal_text why)
body_of w (reply.Front f) = Text (numbered (codes "front") (f.epoch ∷ f.complete ∷ f.min ∷ []))
body_of w (reply.Gap g) = Text (gap_text g)
body_of w reply.NoGap = Text (codes "no gap")
body_of w (reply.State s) = Text (status_start s ++ status_end s)
body_of w (reply.Page image) = Raw (codes "page") (window_of w image)
body_of w (reply.Below min) = Text (numbered (codes "below") (min ∷ []))
body_of w (reply.Above complete) = Text (numbered (codes "above") (complete ∷ []))
body_of w (reply.BrokenBlockChain page number) = Text (numbered (codes "broken") (page ∷ number ∷ []))
body_of w (reply.Summary s) = value_body (codes "summary") (is_long_summary s) (summary_bytes s)
body_of w (reply.Delta d) = value_body (codes "delta") (is_long_delta d) (delta_bytes d)
body_of w reply.Large = Text (codes "large")
body_of w reply.Absorbed = Text (codes "absorbed")
body_of w (reply.Uncovered s) = Text (shown_text s)
body_of w reply.Folded = Text (codes "folded")
body_of w reply.Discarded = Text (codes "discarded")
body_of w reply.Tidied = Text (codes "tidied")
body_of w (reply.Frozen pieces) = Text (numbered (codes "frozen") (pieces ∷ []))
body_of w reply.TooMany = Text (codes "too many")
body_of w (reply.Piece p) = value_body (codes "piece") (is_long_piece p) (piece_bytes p)
body_of w reply.NoSnapshot = Text (codes "no snapshot")
body_of w reply.NoPiece = Text (codes "no piece")
body_of w reply.Staged = Text (codes "staged")
body_of w reply.Added = Text (codes "added")
body_of w reply.Stranger = Text (codes "stranger")
body_of w (reply.Double index) = Text (numbered (codes "double") (index ∷ []))
body_of w reply.NoStaging = Text (codes "no staging")
body_of w reply.Restored = Text (codes "restored")
body_of w reply.United = Text (codes "united")
body_of w (reply.Missing index) = Text (numbered (codes "missing") (index ∷ []))
body_of w (reply.Malformed index) = Text (numbered (codes "malformed") (index ∷ []))
body_of w (reply.Next r) = Raw (codes "record") (fact_bytes (fact.Record r))
body_of w reply.NoNext = Text (codes "none")
body_of w reply.Memory = Text (codes "memory")

-- ---- two renderings
-- a line, with its LF: bytes are digits, in lower case
abbrev pub line : BodyData → List ℕ
line (Text text) = text ++ codes "\n"
line (Raw word bytes) = word ++ (codes " " ++ (encode_lower bytes ++ codes "\n"))

-- bytes, or a text in their place where they are more than a frame has room for
unfoldable pub fitted : List ℕ → List ℕ → List ℕ
fitted long bytes = if nat_lt 4294967295 (length bytes) then long else bytes

-- a frame: bytes are as they are
abbrev pub frame : BodyData → List ℕ
frame (Text text) = text
frame (Raw word bytes) = fitted (word ++ codes " too long") (word ++ (codes " " ++ bytes))

-- a frame behind a head
abbrev pub frame_behind : List ℕ → List ℕ → List ℕ
frame_behind [] text = text
frame_behind (b ∷ bs) text = fitted (codes "too long") ((b ∷ bs) ++ text)

-- the line or the frame of a body behind a head
abbrev pub rendered : Form → List ℕ → BodyData → List ℕ
rendered Lines head said = head ++ line said
rendered Frames head said = frame_behind head (frame said)

-- the frame of a reply
abbrev pub frame_of : Window → Reply → List ℕ
frame_of w told = frame (body_of w told)

-- ---- memory
-- The replies whose answer takes memory. None of them is to a request that has changed more than a refusal does.
abbrev pub TakesMemory : Reply → Type 0
TakesMemory (reply.Refused why) = Unit {0}
TakesMemory (reply.Front f) = Unit {0}
TakesMemory (reply.Gap g) = Unit {0}
TakesMemory (reply.State s) = Unit {0}
TakesMemory (reply.Page image) = Unit {0}
TakesMemory (reply.Below min) = Unit {0}
TakesMemory (reply.Above complete) = Unit {0}
TakesMemory (reply.BrokenBlockChain page number) = Unit {0}
TakesMemory (reply.Summary s) = Unit {0}
TakesMemory (reply.Delta d) = Unit {0}
TakesMemory (reply.Uncovered s) = Unit {0}
TakesMemory (reply.Piece p) = Unit {0}
TakesMemory (reply.Double index) = Unit {0}
TakesMemory (reply.Missing index) = Unit {0}
TakesMemory (reply.Malformed index) = Unit {0}
TakesMemory (reply.Next r) = Unit {0}
TakesMemory told = ⊥

-- ---- what encodes no request
-- why a line or a frame does not; a value's fault goes by its number
abbrev pub fault_text : Form → LineFault → List ℕ
fault_text form (fault.Wire f) = numbered (codes "wire") (fault_number f ∷ [])
fault_text Lines fault.Form = codes "bad line"
fault_text Lines fault.Hex = codes "bad hex"
fault_text Frames why = codes "bad request"
