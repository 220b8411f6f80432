-- What the frame of an event says.
use Rattle.std.specs.Prelude.{ℕ, ◌==◌, Bool, false, List, [], ◌∷◌, Option, Some, None, Result, Ok, codes, bytes_eq, if◌then◌else◌}
use Rattle.redo_core.specs.Data.{RecordData}
use Rattle.redo_core.specs.Shape.{max_number, max_readers}
use Rattle.redo_core.specs.declared.patches.Patch.{Patch}
use Rattle.redo_core.specs.declared.facts.Fact.{Fact}
use Rattle.redo_core.specs.declared.facts.Fact.TheVariants as fact
use Rattle.redo_wire.specs.FactReading.{decoded_fact}
use Rattle.redo_wire.specs.declared.faults.WireFault.{WireFault}
use Rattle.guard.specs.declared.replies.Reply.{Reply}
use Rattle.volume.specs.declared.events.Event.TheVariants as event
use Rattle.text.specs.Number.{decimal_value}
use Rattle.text.specs.Fields.{Form, form, of_one, of_two}
use Rattle.node_stream.specs.FrameReading.{halves, under_limit}
use Rattle.node_stream.specs.GuardReading.{max_wide}
use Rattle.volume_stream.specs.Words.{made_of}
use Rattle.volume_stream.specs.ReplyFrames.{reply_in}
use Rattle.volume_stream.specs.declared.heard.Heard.{Heard}
use Rattle.volume_stream.specs.declared.heard.Heard.TheVariants as heard

-- What a frame says: an event, an answer that no engine listens to, or nothing that is known.
pub data Said : Type 0 where
  Create : Said
  Open : ℕ → Said
  Write : ℕ → Bool → List Patch → Said
  Commit : List ℕ → Said
  Advance : ℕ → ℕ → Said
  Answered : ℕ → Reply → Said
  Failed : ℕ → Said
  Nothing : Said
  Unknown : Said

-- the same of what was read
abbrev pub said_by : Heard → Said
said_by (heard.Event event.Create) = Create
said_by (heard.Event (event.Open generation)) = Open generation
said_by (heard.Event (event.Write page init patches)) = Write page init patches.items
said_by (heard.Event (event.Commit header)) = Commit header.items
said_by (heard.Event (event.Advance reader point)) = Advance reader point
said_by (heard.Event (event.Answered node told)) = Answered node told
said_by (heard.Event (event.Failed node)) = Failed node
said_by heard.Nothing = Nothing
said_by heard.Unknown = Unknown

abbrev pub or_unknown : Option Said → Said
or_unknown None = Unknown
or_unknown (Some said) = said

-- ---- a word and numbers
abbrev pub open_form : Form Said
open_form = form (codes "open") (max_wide ∷ []) (of_one (λ generation. Some (Open generation)))

abbrev pub advance_form : Form Said
advance_form = form (codes "advance") (max_readers ∷ max_number ∷ []) (of_two (λ reader point. Some (Advance reader point)))

abbrev pub failed_form : Form Said
failed_form = form (codes "failed") (255 ∷ []) (of_one (λ node. Some (Failed node)))

unfoldable pub numbered_event : List ℕ → List ℕ → Said
numbered_event word rest =
    if bytes_eq word (codes "open") then or_unknown (made_of open_form rest)
    else if bytes_eq word (codes "advance") then or_unknown (made_of advance_form rest)
    else if bytes_eq word (codes "failed") then or_unknown (made_of failed_form rest)
    else Unknown

-- ---- writes
-- a record with number 1, no backlinks and epoch 0
abbrev pub is_first : RecordData → Bool
is_first r = if r.number == 1 then (if r.back == 0 then (if r.block_back == 0 then r.epoch == 0 else false) else false) else false

abbrev pub write_of : RecordData → Said
write_of r = if is_first r then Write r.page r.init r.patches else Unknown

abbrev pub write_in : Result Fact WireFault → Said
write_in (Ok (fact.Record r)) = write_of r
write_in other = Unknown

-- ---- answers
abbrev pub told_by : ℕ → Option Reply → Said
told_by node None = Nothing
told_by node (Some told) = Answered node told

abbrev pub answered_by : Option (ℕ × List ℕ) → Said
answered_by None = Unknown
answered_by (Some (node, answer)) = told_by node (reply_in answer)

abbrev pub node_before : Option (List ℕ × List ℕ) → Option (ℕ × List ℕ)
node_before None = None
node_before (Some (digits, answer)) = under_limit (decimal_value 255 digits) answer

unfoldable pub answered_event : List ℕ → Said
answered_event rest = answered_by (node_before (halves rest))

-- ---- frames
unfoldable pub lone_event : List ℕ → Said
lone_event text = if bytes_eq text (codes "create") then Create else Unknown

unfoldable pub event_words : List ℕ → Option (List ℕ × List ℕ) → Said
event_words text None = lone_event text
event_words text (Some (word, rest)) =
    if bytes_eq word (codes "answered") then answered_event rest
    else if bytes_eq word (codes "write") then write_in (decoded_fact rest)
    else if bytes_eq word (codes "commit") then Commit rest
    else numbered_event word rest

-- what a frame says
abbrev pub event_in : List ℕ → Said
event_in text = event_words text (halves text)
