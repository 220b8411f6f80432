-- What a step does over any facts: each reply, and each new state, is that of the segment's call.
use Rattle.std.specs.Prelude.{◌≡◌, ◌≢◌, ℕ, ◌⊎◌, ◌↔◌, ◌<◌, List, [], ◌∷◌, length, Bool, IsTrue, Option}
use Rattle.std.specs.Prelude.{Some, None, unwrap_or, Result, Ok, Err, IfOk, IfErr, OnOk, OnErr, MatchOption}
use Rattle.redo_core.specs.Book.{roster_of}
use Rattle.redo_core.specs.declared.facts.Fact.{Fact}
use Rattle.redo_core.specs.declared.refusal.Refused.{Refused}
use Rattle.redo_core.specs.Meaning.{Meaning}
use Rattle.log_theorems.specs.OrderOfMeanings.{Covers}
use Rattle.segment_theorems.specs.State.{State, version_of, empty_state}
use Rattle.segment_theorems.specs.HasMeaning.{HasMeaning}
use Rattle.segment_theorems.specs.Shows.{Shows}
use Rattle.segment_core.specs.BlockChain.{ReportsBreak}
use Rattle.segment_core.specs.Exactly.{TakesExactly}
use Rattle.segment_core.specs.Folding.{PlansFold, Commits}
use Rattle.segment_core.specs.Forgetting.{DiscardsJust}
use Rattle.segment_core.specs.Reading.{IsFrontOf, ReportsOutside}
use Rattle.segment_core.specs.declared.answers.Front.{Front}
use Rattle.segment_core.specs.declared.answers.ReadFault.{ReadFault}
use Rattle.segment_core.specs.declared.answers.Refusal.{Refusal}
use Rattle.segment_core.specs.declared.answers.Refusal.TheVariants as refusal
use Rattle.segment_core.specs.declared.answers.Taken.{Taken}
use Rattle.segment_core.specs.declared.fold_plan.Folded.{Folded}
use Rattle.segment_join.specs.Joining.{MeansUnion, TakesTold, RefusesJoin, AreOfOneLog, JoinsInto}
use Rattle.segment_join.specs.Sameness.{ReportsSame}
use Rattle.script_steps.specs.Nodes.{node_of, nodes_of, first_missing}
use Rattle.script_steps.specs.declared.steps.Step.{Step}
use Rattle.script_steps.specs.declared.steps.Step.TheVariants as step
use Rattle.fleet_core.specs.declared.replies.Reply.{Reply}
use Rattle.fleet_core.specs.declared.replies.Reply.TheVariants.{Folded as FoldedIs, Discarded, Front as FrontIs, Joined, Answer, Wiped, NoNode, Memory}
use Rattle.fleet_core.specs.FleetState.{FleetState, ChangesNode, beside}
use Rattle.fleet_core.specs.declared.making.Made.{Made}
use Rattle.fleet_core.specs.MessageCalls.{Asks, AnswersNumber, AbsorbsNumber}
use Rattle.fleet_core.specs.Replying.{taken_reply, fault_reply, read_reply, joined_reply}

-- there was no memory, and nothing has changed
abbrev pub LacksMemory : State → Reply → State → Type 0
LacksMemory old reply new = (reply ≡ Memory) × (new ≡ old)

-- the segment takes the fact, and what it answers is replied
abbrev pub Takes : State → Fact → Reply → State → Type 0
Takes old fact reply new = (answer : Result Taken (Refused Fact Refusal)) × TakesExactly old fact answer new × (reply ≡ taken_reply answer)

-- the page that was planned is committed; there is no plan where the segment has none
abbrev pub CommitsPlan : State → Result Folded ReadFault → Reply → State → Type 0
CommitsPlan old (Ok folded) reply new =
    ((reply ≡ FoldedIs) × Commits old folded new)
    ⊎ (LacksMemory old reply new × (version_of old.store folded.page < folded.version))
CommitsPlan old (Err fault) reply new = (reply ≡ fault_reply fault) × (new ≡ old)

-- the segment plans a fold of the page, and commits it
pub record Folds (old : State) (page : ℕ) (reply : Reply) (new : State) : Type 0 where
  pub plan : Result Folded ReadFault
  pub plans : PlansFold old page plan
  pub commits : CommitsPlan old plan reply new

-- the segment forgets what it has folded
pub record Discards (old : State) (reply : Reply) (new : State) : Type 0 where
  pub told : reply ≡ Discarded
  pub discards : DiscardsJust old new

-- the reply is the segment's own front
pub record Fronts (s : State) (reply : Reply) : Type 0 where
  pub front : Front
  pub own : IsFrontOf s front
  pub told : reply ≡ FrontIs front

-- the segment reads the page
pub record Reads (s : State) (page point : ℕ) (reply : Reply) : Type 0 where
  pub answer : Result (List ℕ) ReadFault
  pub own : IfOk answer (Shows s page point)
  pub outside : ReportsOutside s point answer
  pub broken : ReportsBreak s page point answer
  pub told : reply ≡ read_reply answer

-- another segment is joined into the segment
pub record JoinsOther (old other : State) (reply : Reply) (new : State) : Type 0 where
  pub answer : Result (Unit {0}) Refusal
  pub means : OnOk answer (MeansUnion old other new)
  pub joins : OnOk answer (JoinsInto old other new)
  pub sound : IfErr answer (λ why. AreOfOneLog old other → why ≡ refusal.Memory)
  pub takes : OnOk answer (TakesTold old other)
  pub refused : IfErr answer (λ why. (why ≡ refusal.Memory) ⊎ RefusesJoin old other why)
  pub roster : IfErr answer (λ why. roster_of old.book ≢ roster_of other.book → why ≡ refusal.OtherRoster (roster_of old.book) (roster_of other.book))
  pub unchanged : OnErr answer (new ≡ old)
  pub told : reply ≡ joined_reply answer

-- the segment of the other node is joined into the segment; a node that is joined with itself stays as it is
abbrev pub JoinsBeside : State → Option State → Reply → State → Type 0
JoinsBeside old None reply new = (reply ≡ Joined) × (new ≡ old)
JoinsBeside old (Some other) reply new = JoinsOther old other reply new

-- the answer says whether the first segment's meaning covers the second's
abbrev pub ReportsCovers : State → State → Bool → Type 0
ReportsCovers upper lower answer = (y x : Meaning) → HasMeaning upper y → HasMeaning lower x → IsTrue answer ↔ Covers y x

-- there was no memory, or the reply is an answer that says this
abbrev pub RepliesAnswer : (Bool → Type 0) → Reply → Type 0
RepliesAnswer ReportsAnswer reply = (reply ≡ Memory) ⊎ ((answer : Bool) × ReportsAnswer answer × (reply ≡ Answer answer))

-- the segment is as new
abbrev pub Wipes : ℕ → State → Reply → State → Type 0
Wipes roster old reply new = LacksMemory old reply new ⊎ ((reply ≡ Wiped) × (new ≡ empty_state roster))

-- The calls of a step at the segment of its node, of a fleet of so many readers with these messages. Of the segments that are compared
-- the other one is the node's own where the step names no other node.
abbrev pub NodeCalls : ℕ → State → Option State → List Made → Step Fact → Reply → State → List Made → Type 0
NodeCalls roster old other messages (step.Take node fact) reply new made = Takes old fact reply new × (made ≡ messages)
NodeCalls roster old other messages (step.Fold node page) reply new made = Folds old page reply new × (made ≡ messages)
NodeCalls roster old other messages (step.Discard node) reply new made = Discards old reply new × (made ≡ messages)
NodeCalls roster old other messages (step.Front node) reply new made = Fronts old reply × (new ≡ old) × (made ≡ messages)
NodeCalls roster old other messages (step.Read node page point offset len) reply new made = Reads old page point reply × (new ≡ old) × (made ≡ messages)
NodeCalls roster old other messages (step.Join node from) reply new made = JoinsBeside old other reply new × (made ≡ messages)
NodeCalls roster old other messages (step.Same node than) reply new made =
    RepliesAnswer (ReportsSame old (unwrap_or other old)) reply × (new ≡ old) × (made ≡ messages)
NodeCalls roster old other messages (step.Covers node than) reply new made =
    RepliesAnswer (ReportsCovers old (unwrap_or other old)) reply × (new ≡ old) × (made ≡ messages)
NodeCalls roster old other messages (step.Wipe node) reply new made = Wipes roster old reply new × (made ≡ messages)
NodeCalls roster old other messages (step.Ask node) reply new made = Asks old messages reply made × (new ≡ old)
NodeCalls roster old other messages (step.Answer node message) reply new made = AnswersNumber old messages message reply made × (new ≡ old)
NodeCalls roster old other messages (step.Absorb node message) reply new made = AbsorbsNumber old messages message reply new × (made ≡ messages)

-- the calls of a step whose nodes are all there
abbrev pub Calls : FleetState → Step Fact → Reply → FleetState → Type 0
Calls old step reply new =
    ChangesNode (node_of step) (λ s t. NodeCalls old.roster s (beside old step) old.messages step reply t new.messages) old new

-- a step: the first named node that is not there, or its calls
abbrev pub StepCalls : FleetState → Step Fact → Reply → FleetState → Type 0
StepCalls old step reply new =
    MatchOption (first_missing (length old.segments) (nodes_of step)) (Calls old step reply new) (λ node. (reply ≡ NoNode node) × (new ≡ old))

-- a whole run
abbrev pub RunCalls : FleetState → List (Step Fact) → List Reply → FleetState → Type 0
RunCalls old [] [] new = new ≡ old
RunCalls old [] (reply ∷ replies) new = ⊥
RunCalls old (step ∷ steps) [] new = ⊥
RunCalls old (step ∷ steps) (reply ∷ replies) new = (next : FleetState) × StepCalls old step reply next × RunCalls next steps replies new
