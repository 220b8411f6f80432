-- The line that answers a step.
use Rattle.std.specs.Prelude.{ℕ, Bool, true, false, List, [], ◌++◌, take, drop, codes}
use Rattle.std.specs.List.{flat_map, zip}
use Rattle.std.specs.Fmt.{decimal}
use Rattle.hex.specs.Hex.{encode_lower}
use Rattle.gossip_core.specs.declared.answering.Shown.{Shown}
use Rattle.gossip_core.specs.declared.answering.Shown.TheVariants.{Anchor, Key}
use Rattle.segment_core.specs.declared.answers.Front.{Front}
use Rattle.script_steps.specs.declared.steps.Step.{Step}
use Rattle.script_steps.specs.declared.steps.Step.TheVariants.{Read}
use Rattle.fleet_core.specs.declared.replies.Reply.{Reply}
use Rattle.fleet_core.specs.declared.replies.Reply.TheVariants as reply

-- the bytes of a page that a step yields: only a read yields any
abbrev pub shown_bytes : Step ℕ → List ℕ → List ℕ
shown_bytes (Read node page point offset len) image = take len (drop offset image)
shown_bytes step image = []

-- the answer to a comparison
abbrev pub answer_text : Bool → List ℕ
answer_text true = codes "yes\n"
answer_text false = codes "no\n"

-- a node's front
abbrev pub front_text : Front → List ℕ
front_text f = codes "front " ++ (decimal f.epoch ++ (codes " " ++ (decimal f.complete ++ (codes " " ++ (decimal f.min ++ codes "\n")))))

-- the part of a summary that a node does not cover
abbrev pub uncovered_text : Shown → List ℕ
uncovered_text (Anchor anchor) = codes "anchor " ++ decimal anchor
uncovered_text (Key key) = codes "key " ++ (decimal key.epoch ++ (codes " " ++ decimal key.number))

-- The answer line of a reply to a step, with its LF. The refusals have none: they do not occur with a sound log.
abbrev pub line_of : Step ℕ → Reply → List ℕ
line_of step reply.Changed = codes "changed\n"
line_of step reply.Unchanged = codes "unchanged\n"
line_of step reply.Folded = codes "folded\n"
line_of step reply.Discarded = codes "discarded\n"
line_of step (reply.Front front) = front_text front
line_of step (reply.Page image) = codes "page " ++ (encode_lower (shown_bytes step image) ++ codes "\n")
line_of step (reply.Below min) = codes "below " ++ (decimal min ++ codes "\n")
line_of step (reply.Above complete) = codes "above " ++ (decimal complete ++ codes "\n")
line_of step reply.Joined = codes "joined\n"
line_of step (reply.Answer answer) = answer_text answer
line_of step reply.Wiped = codes "wiped\n"
line_of step (reply.Message number) = codes "message " ++ (decimal number ++ codes "\n")
line_of step reply.Absorbed = codes "absorbed\n"
line_of step (reply.Uncovered shown) = codes "uncovered " ++ (uncovered_text shown ++ codes "\n")
line_of step (reply.NoMessage number) = codes "no message " ++ (decimal number ++ codes "\n")
line_of step (reply.NoNode node) = codes "no node " ++ (decimal node ++ codes "\n")
line_of step (reply.Refused refusal) = []
line_of step (reply.BrokenBlockChain page number) = []
line_of step reply.Memory = []

-- the answer lines of the replies to steps, in order
abbrev pub lines_of : List (Step ℕ) → List Reply → List ℕ
lines_of steps replies = flat_map (λ p. line_of p.0 p.1) (zip steps replies)
