-- The messages that a fleet keeps, and those of the machine that they are of.
use Rattle.std.specs.Prelude.{◌≡◌, ℕ, List, length, Option, Some, None}
use Rattle.std.specs.List.{AllZip}
use Rattle.redo_core.specs.Meaning.{Meaning, IsMeaning}
use Rattle.redo_core.specs.Position.{Position, IsPosition}
use Rattle.redo_core.specs.Sets.{IsPart}
use Rattle.redo_core.specs.declared.facts.Fact.{Fact}
use Rattle.messages.specs.Summaries.{SummaryData}
use Rattle.messages.specs.Deltas.{DeltaData}
use Rattle.segment_theorems.specs.Gossip.{Fills}
use Rattle.gossip_core.specs.Summarizing.{IsSummaryOf}
use Rattle.gossip_core.specs.Answering.{listing_of}
use Rattle.gossip_core.specs.Absorbing.{filling_of}
use Rattle.script_steps.specs.Nodes.{nodes_of, first_missing}
use Rattle.script_steps.specs.declared.steps.Step.{Step}
use Rattle.script_steps.specs.declared.steps.Step.TheVariants as step
use Rattle.fleet_core.specs.FleetState.{FleetState}
use Rattle.fleet_core.specs.declared.making.Made.{Made}
use Rattle.fleet_core.specs.declared.making.Made.TheVariants.{Question, Answer}
use Rattle.fleet_core.specs.Machine.{Message, numbered}
use Rattle.fleet_core.specs.Machine.Message.{Asked, Answered}

-- ---- messages by their numbers
-- the summary of a question; none where there is no such question
abbrev pub question_by : Option Made → Option SummaryData
question_by (Some (Question summary)) = Some summary
question_by message = None

abbrev pub question_in : List Made → ℕ → Option SummaryData
question_in messages number = question_by (numbered messages number)

-- an answer's delta, beside the summary that it answers; none where there is no such answer
abbrev pub beside_question : Option SummaryData → DeltaData → Option (SummaryData × DeltaData)
beside_question (Some summary) delta = Some (summary, delta)
beside_question None delta = None

abbrev pub answer_by : List Made → Option Made → Option (SummaryData × DeltaData)
answer_by messages (Some (Answer question delta)) = beside_question (question_in messages question) delta
answer_by messages message = None

abbrev pub answer_in : List Made → ℕ → Option (SummaryData × DeltaData)
answer_in messages number = answer_by messages (numbered messages number)

-- ---- the message that a step names
-- the number, where there is nothing of it
abbrev pub lacking : {A : Type 0} → Option A → ℕ → Option ℕ
lacking (Some x) number = None
lacking None number = Some number

-- the message that the step names, where it is not there or is none that the step can use
abbrev pub missing_message : {F : Type 0} → List Made → Step F → Option ℕ
missing_message messages (step.Answer node message) = lacking (question_in messages message) message
missing_message messages (step.Absorb node message) = lacking (answer_in messages message) message
missing_message messages step = None

-- all nodes that the step names are there, but not the message of this number
abbrev pub LacksMessage : {F : Type 0} → FleetState → Step F → ℕ → Type 0
LacksMessage fleet step number = (first_missing (length fleet.segments) (nodes_of step) ≡ None) × (missing_message fleet.messages step ≡ Some number)

-- ---- those of the machine
-- the summary is that of the facts, which are of the log
pub record AsksWith (roster : ℕ) (log asked : List Fact) (summary : SummaryData) : Type 0 where
  pub part : IsPart asked log
  pub tells : (m : Meaning) → IsMeaning roster asked m → IsSummaryOf m summary

-- the delta has what the facts, which are of the log, have beyond the summary
pub record AnswersWith (roster : ℕ) (log facts : List Fact) (summary : SummaryData) (delta : DeltaData) : Type 0 where
  pub part : IsPart facts log
  pub p : Position
  pub position : IsPosition roster facts p
  pub fills : Fills facts p (listing_of summary) (filling_of delta)

-- a kept message is of one of the machine: an answer together with the question that it names
abbrev pub IsMade : ℕ → List Fact → List Made → Message → Made → Type 0
IsMade roster log made (Asked asked) (Question summary) = AsksWith roster log asked summary
IsMade roster log made (Asked asked) (Answer question delta) = ⊥
IsMade roster log made (Answered asked facts) (Question summary) = ⊥
IsMade roster log made (Answered asked facts) (Answer question delta) =
    (summary : SummaryData) × (question_in made question ≡ Some summary) × AsksWith roster log asked summary × AnswersWith roster log facts summary delta

-- the kept messages are of those of the machine, in order
abbrev pub AreMade : ℕ → List Fact → List Message → List Made → Type 0
AreMade roster log messages made = AllZip (IsMade roster log made) messages made
