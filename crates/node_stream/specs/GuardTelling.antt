-- The line and the frame that answer a guard's reply.
use Rattle.std.specs.Prelude.{ℕ, Bool, true, false, List, [], ◌∷◌, ◌++◌, Option, Some, None, codes}
use Rattle.guard.specs.declared.requests.AcceptedCut.{AcceptedCut}
use Rattle.guard.specs.declared.requests.Request.{Request}
use Rattle.guard.specs.declared.requests.Request.TheVariants as request
use Rattle.guard.specs.declared.replies.Reply.{Reply}
use Rattle.guard.specs.declared.replies.Reply.TheVariants as reply
use Rattle.segment_core.specs.declared.answers.Front.{Front}
use Rattle.node_stream.specs.Telling.{BodyData, numbers_behind, numbered, body_of, rendered, TakesMemory}
use Rattle.node_stream.specs.Telling.BodyData.{Text}
use Rattle.node_stream.specs.declared.asked.Window.{Window}
use Rattle.node_stream.specs.declared.job.Form.{Form}
use Rattle.node_stream.specs.declared.job.Form.TheVariants as stream

-- ---- words and numbers
-- an accepted truncation: its generation, epoch, lo and hi
abbrev pub pair_numbers : Option AcceptedCut → List ℕ
pair_numbers None = []
pair_numbers (Some pair) = pair.generation ∷ pair.cut.epoch ∷ pair.cut.lo ∷ pair.cut.hi ∷ []

-- a word, numbers, and those of an accepted truncation, if there is one
abbrev pub guard_numbers : List ℕ → List ℕ → Option AcceptedCut → BodyData
guard_numbers word ns pair = Text (word ++ (numbers_behind ns ++ numbers_behind (pair_numbers pair)))

-- 1 for a member
abbrev pub member_number : Bool → ℕ
member_number true = 1
member_number false = 0

-- what a node is, and the front of its segment
abbrev pub status_numbers : ℕ → ℕ → Bool → Front → List ℕ
status_numbers generation birth is_member front =
    generation ∷ birth ∷ member_number is_member ∷ front.epoch ∷ front.complete ∷ front.min ∷ []

-- ---- replies
-- what stands before the reply of a replica that was asked under a generation
abbrev pub heading : ℕ → ℕ → List ℕ
heading generation birth = codes "as" ++ (numbers_behind (generation ∷ birth ∷ []) ++ codes " ")

abbrev pub guard_head : Reply → List ℕ
guard_head (reply.Headed generation birth told) = heading generation birth
guard_head told = []

-- the body of the reply behind it; a page is shown through the window
abbrev pub guard_body : Window → Reply → BodyData
guard_body w (reply.Status generation birth is_member front accepted) =
    guard_numbers (codes "status") (status_numbers generation birth is_member front) accepted
guard_body w (reply.Fenced generation birth accepted) = guard_numbers (codes "fenced") (generation ∷ birth ∷ []) accepted
guard_body w (reply.Stale generation) = Text (numbered (codes "stale") (generation ∷ []))
guard_body w (reply.Fresh birth) = Text (numbered (codes "fresh") (birth ∷ []))
guard_body w (reply.Headed generation birth told) = body_of w told
guard_body w (reply.Accepted generation birth epoch) = Text (numbered (codes "accepted") (generation ∷ birth ∷ epoch ∷ []))
guard_body w (reply.Admitted generation birth) = Text (numbered (codes "admitted") (generation ∷ birth ∷ []))
guard_body w reply.Member = Text (codes "member")
guard_body w (reply.Stranger birth) = Text (numbered (codes "stranger") (birth ∷ []))
guard_body w (reply.Behind epoch complete) = Text (numbered (codes "behind") (epoch ∷ complete ∷ []))
guard_body w reply.Unguarded = Text (codes "unguarded")
guard_body w (reply.Plain told) = body_of w told

-- the line of a reply, with its LF, or its frame
abbrev pub guard_text : Form → Window → Reply → List ℕ
guard_text form w told = rendered form (guard_head told) (guard_body w told)

abbrev pub guard_frame : Window → Reply → List ℕ
guard_frame = guard_text stream.Frames

-- ---- memory and room
-- The replies whose answer takes memory. None of them is to a request that has changed more than a refusal does.
abbrev pub NeedsMemory : Reply → Type 0
NeedsMemory (reply.Headed generation birth told) = TakesMemory told
NeedsMemory (reply.Plain told) = TakesMemory told
NeedsMemory told = ⊥

-- the most bytes of the answer frame to a request that changes something: so many are sure to have room
abbrev pub sure_for : Request → ℕ
sure_for (request.Plain asked) = 17
sure_for asked = 220

-- the same by the reply
abbrev pub sure_of : Reply → ℕ
sure_of (reply.Plain told) = 17
sure_of reply.Member = 17
sure_of told = 220
