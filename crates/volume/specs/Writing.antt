-- An open volume.
use Rattle.std.specs.Prelude.{◌≡◌, ◌≢◌, ℕ, ◌+◌, ◌<◌, ◌≤◌, ◌⊎◌, List, [], ◌∷◌, ◌++◌, length, max, Bool, false, Option, Some, None, slice_set, slice_index, ◌==◌, filter, nat_lt, if◌then◌else◌}
use Rattle.std.specs.List.{Contains, AllByRecursion}
use Rattle.redo_core.specs.Data.{RecordData, advance_of}
use Rattle.redo_core.specs.Shape.{max_number}
use Rattle.redo_core.specs.declared.facts.Fact.{Fact}
use Rattle.redo_core.specs.declared.facts.Fact.TheVariants as fact
use Rattle.redo_core.specs.declared.patches.Patch.{Patch}
use Rattle.log_law.specs.declared.writer.WriterFault.{WriterFault}
use Rattle.log_law.specs.declared.writer.WriterFault.TheVariants as refusal
use Rattle.redo_core.specs.declared.shapes.ShapeFault.TheVariants.{NoSuchReader}
use Rattle.redo_writer.specs.State.{WriterState, next_record}
use Rattle.redo_writer.specs.Changes.{KeepsRecord, RaisesReader, DropsSettled}
use Rattle.redo_writer.specs.Continues.{Continues}
use Rattle.redo_writer.specs.Refusals.{append_refusal, advance_refusal}
use Rattle.segment_core.specs.declared.answers.Front.{Front}
use Rattle.replica.specs.declared.replies.Reply.{Reply as SegmentReply}
use Rattle.replica.specs.declared.replies.Reply.TheVariants as segment
use Rattle.guard.specs.declared.replies.Reply.{Reply}
use Rattle.guard.specs.declared.replies.Reply.TheVariants as reply
use Rattle.volume.specs.declared.actions.Action.{Action}
use Rattle.volume.specs.declared.actions.Action.TheVariants.{Committed, Durable, Refused}
use Rattle.volume.specs.declared.actions.Fault.{Fault}
use Rattle.volume.specs.declared.actions.Fault.TheVariants.{Fenced, Ahead, Full, Reserved, LongHeader, Shape}
use Rattle.volume.specs.declared.errands.Errand.{Errand}
use Rattle.volume.specs.declared.errands.Errand.TheVariants as errand
use Rattle.volume.specs.declared.phases.Session.{Session}
use Rattle.volume.specs.declared.phases.Writing.{Writing}
use Rattle.volume.specs.declared.turns.Transition.{Transition}
use Rattle.volume.specs.Sets.{count_at_least}
use Rattle.volume.specs.declared.errands.Query.TheVariants.{Fence}
use Rattle.volume.specs.Asking.{asks_from, asks_of, query_to}
use Rattle.redo_writer.specs.Layout.{number_patch, commit_patch}
use Rattle.volume.specs.Layout.{IsUsers}
use Rattle.volume.specs.Sessions.{IsOwn, IsLate, with_birth}
use Rattle.volume.specs.Turning.{Stays, StopsWith}

-- ---- what does not change
pub record SameRun (old new : Writing) : Type 0 where
  pub session : new.session ≡ old.session
  pub cut : new.cut ≡ old.cut
  pub reached : new.reached ≡ old.reached
  pub durable : new.durable ≡ old.durable

-- an errand to each node whose birth is known
abbrev pub to_members : Session → Errand → List Action
to_members s e = asks_from s.generation e 0 s.births

-- ---- records
-- a record of page 0 ends a mini-transaction, so the nodes report their fronts after it
abbrev pub errand_of : RecordData → Errand
errand_of r = if r.page == 0 then errand.Close r else errand.Store r

-- what is sent to each member for a record, and then the commit point, if it is of page 0
abbrev pub sends_record : Session → RecordData → List Action
sends_record s r = to_members s (errand_of r) ++ (if r.page == 0 then Committed r.number ∷ [] else [])

-- the record of a page that comes next, which puts its number at the end of its page; perhaps the page is all zeros before
abbrev pub record_of_page : WriterState → ℕ → Bool → List Patch → RecordData
record_of_page w page init patches = next_record w (w.last + 1) page init (patches ++ number_patch (w.last + 1) ∷ [])

-- it is written with the next number, and sent to each member; with it each log that the writer continues stays sound
pub record WritesRecord (old : Writing) (redo : RecordData) (new : Writing) (actions : List Action) : Type 0 where
  pub number : old.writer.last < max_number
  pub writer : KeepsRecord old.writer redo.number redo.page new.writer
  pub continues : (log : List Fact) → Continues old.writer log → Continues new.writer (log ++ fact.Record redo ∷ [])
  pub backlog : new.backlog ≡ old.backlog ++ redo ∷ []
  pub same : SameRun old new
  pub asks : actions ≡ sends_record old.session redo

-- the fault of a call that the writer refuses
abbrev pub fault_named : WriterFault → Fault
fault_named (refusal.Shape f) = Shape f
fault_named (refusal.OtherRoster own shown) = Shape NoSuchReader
fault_named other = Full

-- the writer did not lack memory, and that is its refusal
abbrev pub IsRefusedAs : WriterFault → List Action → Type 0
IsRefusedAs why actions = (why ≢ refusal.Memory) × (actions ≡ Refused (fault_named why) ∷ [])

-- no number is left, or the writer refuses the record
abbrev pub RefusesWrite : WriterState → RecordData → Fault → Type 0
RefusesWrite w redo f =
    ((max_number ≤ w.last) × (f ≡ Full)) ⊎ ((why : WriterFault) × (append_refusal w redo ≡ Some why) × (f ≡ fault_named why))

-- nothing but a refusal
abbrev pub RefusesCall : Writing → Fault → List Action → Writing → Type 0
RefusesCall old f actions new = (actions ≡ Refused f ∷ []) × (new ≡ old)

abbrev pub AddsRecord : Writing → RecordData → List Action → Writing → Type 0
AddsRecord old redo actions new =
    WritesRecord old redo new actions ⊎ ((f : Fault) × RefusesWrite old.writer redo f × RefusesCall old f actions new)

-- a page above page 0 is patched in its user's part
abbrev pub IsUsersWrite : ℕ → List Patch → Type 0
IsUsersWrite page patches = (page ≢ 0) × AllByRecursion IsUsers patches

abbrev pub WritesPage : Writing → ℕ → Bool → List Patch → List Action → Writing → Type 0
WritesPage old page init patches actions new =
    (¬ (IsUsersWrite page patches) × RefusesCall old Reserved actions new)
    ⊎ (IsUsersWrite page patches × AddsRecord old (record_of_page old.writer page init patches) actions new)

-- a mini-transaction ends with a record of page 0
abbrev pub EndsTransaction : Writing → List ℕ → List Action → Writing → Type 0
EndsTransaction old header actions new =
    ((1024 < length header) × RefusesCall old LongHeader actions new)
    ⊎ ((length header ≤ 1024)
    × AddsRecord old (record_of_page old.writer 0 false (commit_patch old.session.generation old.cut.epoch header ∷ [])) actions new)

-- ---- readers
-- the reader's point is raised, and what only a truncation below the minimum read point could need is dropped
pub record RaisesDurably (old : Writing) (reader point : ℕ) (new : Writing) (actions : List Action) : Type 0 where
  pub durable : point ≤ old.durable
  pub next : WriterState
  pub raises : RaisesReader old.writer (advance_of old.writer.epoch reader point) next
  pub drops : DropsSettled next new.writer
  pub continues : (log : List Fact) → Continues old.writer log
      → Continues new.writer (log ++ fact.Advance (advance_of old.writer.epoch reader point) ∷ [])
  pub backlog : new.backlog ≡ old.backlog
  pub same : SameRun old new
  pub asks : actions ≡ to_members old.session (errand.Raise (advance_of old.writer.epoch reader point))

-- not above the last durable commit point
abbrev pub RefusesRaise : Writing → ℕ → ℕ → Fault → Type 0
RefusesRaise w reader point f =
    ((w.durable < point) × (f ≡ Ahead w.durable))
    ⊎ ((point ≤ w.durable) × ((why : WriterFault) × (advance_refusal w.writer reader point ≡ Some why) × (f ≡ fault_named why)))

abbrev pub RaisesPoint : Writing → ℕ → ℕ → List Action → Writing → Type 0
RaisesPoint old reader point actions new =
    RaisesDurably old reader point new actions ⊎ ((f : Fault) × RefusesRaise old reader point f × RefusesCall old f actions new)

-- ---- what is durable
-- the record ends a mini-transaction, and a quorum has come up to it in the epoch of this machine
abbrev pub IsReachedCommit : ℕ → RecordData → List ℕ → Type 0
IsReachedCommit quorum r reached = (r.page ≡ 0) × (quorum ≤ count_at_least r.number reached)

-- each such record is at or below the point
pub record HasNoneReachedAbove (quorum : ℕ) (backlog : List RecordData) (reached : List ℕ) (point : ℕ) : Type 0 where
  pub upto : (r : RecordData) → Contains backlog r → IsReachedCommit quorum r reached → r.number ≤ point

-- the greatest number of such a record that is not durable yet
abbrev pub IsLastReached : ℕ → List RecordData → List ℕ → ℕ → Type 0
IsLastReached quorum backlog reached point =
    (r : RecordData) × Contains backlog r × IsReachedCommit quorum r reached × (r.number ≡ point) × HasNoneReachedAbove quorum backlog reached point

-- no quorum has come up to such a record
pub record HasNoneReached (quorum : ℕ) (backlog : List RecordData) (reached : List ℕ) : Type 0 where
  pub none : (r : RecordData) → Contains backlog r → IsReachedCommit quorum r reached → ⊥

-- the greatest complete point of the node
abbrev pub with_reached : List ℕ → ℕ → ℕ → List ℕ
with_reached reached node point = slice_set reached node (max (slice_index reached node) point)

-- the records above the point
abbrev pub records_above : ℕ → List RecordData → List RecordData
records_above point records = filter (λ r. nat_lt point r.number) records

abbrev pub SameWriter : Writing → Writing → Type 0
SameWriter old new = (new.session ≡ old.session) × (new.cut ≡ old.cut) × (new.writer ≡ old.writer)

-- The front is of the epoch: the node has reached its point. Where a quorum has then reached a commit point, the greatest one is durable.
abbrev pub HearsPoint : ℕ → Writing → ℕ → ℕ → Writing → Transition → Type 0
HearsPoint quorum old node point new turn =
    (HasNoneReached quorum old.backlog new.reached × SameWriter old new × (new.reached ≡ with_reached old.reached node point)
    × (new.durable ≡ old.durable) × (new.backlog ≡ old.backlog) × Stays turn [])
    ⊎ ((commit_point : ℕ) × IsLastReached quorum old.backlog new.reached commit_point × SameWriter old new
    × (new.reached ≡ with_reached old.reached node point) × (new.durable ≡ commit_point)
    × (new.backlog ≡ records_above commit_point old.backlog) × Stays turn (Durable commit_point ∷ []))

-- a front of another epoch counts nothing
abbrev pub HearsEpochFront : ℕ → Writing → ℕ → Front → Writing → Transition → Type 0
HearsEpochFront quorum old node front new turn =
    ((front.epoch ≢ old.cut.epoch) × Stays turn [] × (new ≡ old))
    ⊎ ((front.epoch ≡ old.cut.epoch) × HearsPoint quorum old node front.complete new turn)

-- ---- nodes that are brought up to date
-- the records, to a node
abbrev pub stores_of : ℕ → ℕ → ℕ → List RecordData → List Action
stores_of node generation birth [] = []
stores_of node generation birth (r ∷ rs) = asks_of node generation birth (errand.Store r) ++ stores_of node generation birth rs

-- the truncation of the epoch, the records that are not durable, and then the front; a node of which no birth is known is to be fenced
abbrev pub brings : Writing → ℕ → Option ℕ → List Action
brings w node None = query_to (Fence w.session.generation) node
brings w node (Some birth) =
    (asks_of node w.session.generation birth (errand.Begin w.cut) ++ stores_of node w.session.generation birth w.backlog)
    ++ asks_of node w.session.generation birth errand.Report

-- a node that is fenced or admitted late
abbrev pub BringsLate : Writing → ℕ → ℕ → ℕ → Writing → Transition → Type 0
BringsLate old node generation birth new turn =
    (¬ (IsLate old.session node generation) × Stays turn [] × (new ≡ old))
    ⊎ (IsLate old.session node generation × (new ≡ record old { session = with_birth old.session node birth })
    × Stays turn (brings old node (Some birth)))

-- ---- replies
abbrev pub HearsSegment : ℕ → Writing → ℕ → SegmentReply → Writing → Transition → Type 0
HearsSegment quorum old node (segment.Front front) new turn = HearsEpochFront quorum old node front new turn
HearsSegment quorum old node other new turn = Stays turn [] × (new ≡ old)

-- only a front that was asked under the generation counts, of the birth that was fenced or admitted
abbrev pub HearsWriting : ℕ → Writing → ℕ → Reply → Writing → Transition → Type 0
HearsWriting quorum old node (reply.Headed generation birth told) new turn =
    (IsOwn old.session node generation birth × HearsSegment quorum old node told new turn)
    ⊎ (¬ (IsOwn old.session node generation birth) × Stays turn [] × (new ≡ old))
HearsWriting quorum old node (reply.Fenced generation birth accepted) new turn = BringsLate old node generation birth new turn
HearsWriting quorum old node (reply.Admitted generation birth) new turn = BringsLate old node generation birth new turn
HearsWriting quorum old node (reply.Stale generation) new turn =
    ((old.session.generation < generation) × StopsWith turn (Fenced generation) × (new ≡ old))
    ⊎ ((generation ≤ old.session.generation) × Stays turn [] × (new ≡ old))
HearsWriting quorum old node other new turn = Stays turn [] × (new ≡ old)
