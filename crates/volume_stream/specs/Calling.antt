-- The frames of events, and which of them are heard as what they are.
use Rattle.std.specs.Prelude.{◌≡◌, ℕ, ◌≤◌, Bool, List, [], ◌∷◌, ◌++◌, codes}
use Rattle.redo_core.specs.Data.{RecordData, record_with}
use Rattle.redo_core.specs.Shape.{max_number, max_readers}
use Rattle.redo_core.specs.declared.patches.Patch.{Patch}
use Rattle.redo_core.specs.declared.facts.Fact.TheVariants as fact
use Rattle.redo_wire.specs.Records.{IsWireRecord}
use Rattle.redo_wire.specs.Facts.{fact_bytes}
use Rattle.volume.specs.declared.events.Event.{Event}
use Rattle.volume.specs.declared.events.Event.TheVariants as event
use Rattle.node_stream.specs.GuardReading.{max_wide}
use Rattle.node_stream.specs.GuardTelling.{guard_frame}
use Rattle.node_stream.specs.declared.asked.Window.{Window}
use Rattle.volume_stream.specs.Words.{followed}
use Rattle.node_stream.specs.Telling.{numbered}
use Rattle.volume_stream.specs.EventFrames.{said_by, event_in}
use Rattle.volume_stream.specs.Carried.{IsHeardReply}
use Rattle.volume_stream.specs.declared.heard.Heard.TheVariants as heard

-- a write is the record with number 1, no backlinks and epoch 0
abbrev pub first_record : ℕ → Bool → List Patch → RecordData
first_record page init patches = record_with 0 1 0 page 0 init patches

-- the frame of an event; a node has answered with the frame of its reply
abbrev pub event_frame : Window → Event → List ℕ
event_frame w event.Create = codes "create"
event_frame w (event.Open generation) = numbered (codes "open") (generation ∷ [])
event_frame w (event.Write page init patches) = codes "write " ++ fact_bytes (fact.Record (first_record page init patches.items))
event_frame w (event.Commit header) = codes "commit " ++ header.items
event_frame w (event.Advance reader point) = numbered (codes "advance") (reader ∷ point ∷ [])
event_frame w (event.Answered node told) = followed (codes "answered") (node ∷ []) (guard_frame w told)
event_frame w (event.Failed node) = numbered (codes "failed") (node ∷ [])

-- its numbers are within their limits, its patches are those of some record, and its reply is one to which engines listen
abbrev pub IsCalled : Event → Type 0
IsCalled event.Create = Unit {0}
IsCalled (event.Open generation) = generation ≤ max_wide
IsCalled (event.Write page init patches) = IsWireRecord (first_record page init patches.items)
IsCalled (event.Commit header) = Unit {0}
IsCalled (event.Advance reader point) = (reader ≤ max_readers) × (point ≤ max_number)
IsCalled (event.Answered node told) = (node ≤ 255) × IsHeardReply told
IsCalled (event.Failed node) = node ≤ 255

-- the machine hears in the frame of an event that event
abbrev pub EventsAreHeard : Type 0
EventsAreHeard = (w : Window) (e : Event) → IsCalled e → event_in (event_frame w e) ≡ said_by (heard.Event e)
