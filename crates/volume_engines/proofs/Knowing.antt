-- What an engine knows after each step, in each phase.
use Rattle.std.proofs.Common.{◌≡◌, ℕ, suc, ◌+◌, ◌<◌, ◌≤◌, ◌⊎◌, List, [], length, Bool, true, Option, Some, None}
use Rattle.std.specs.Prelude.{slice_index_or}
use Rattle.std.specs.List.{Contains}
use Rattle.redo_core.specs.Data.{RecordData}
use Rattle.redo_core.specs.declared.facts.Fact.{Fact}
use Rattle.redo_core.specs.declared.facts.Fact.TheVariants.{Record}
use Rattle.messages.specs.Summaries.{SummaryData}
use Rattle.segment_theorems.specs.State.{State}
use Rattle.segment_theorems.specs.Means.{Means}
use Rattle.guard.specs.declared.requests.AcceptedCut.{AcceptedCut}
use Rattle.volume.specs.declared.actions.Action.{Action}
use Rattle.volume.specs.declared.fencing.Fencing.{Fencing}
use Rattle.volume.specs.declared.phases.Opening.{Opening}
use Rattle.volume.specs.declared.phases.Phase.{Phase}
use Rattle.volume.specs.declared.phases.Phase.TheVariants as phase
use Rattle.volume.specs.declared.phases.Session.{Session}
use Rattle.volume.specs.declared.phases.Stage.{Stage}
use Rattle.volume.specs.declared.phases.Stage.TheVariants as stage
use Rattle.volume.specs.declared.phases.Writing.{Writing}
use Rattle.volume.specs.declared.plans.CutPlan.{CutPlan}
use Rattle.volume.specs.declared.turns.Transition.{Transition}
use Rattle.volume.specs.declared.turns.Transition.TheVariants as turn
use Rattle.volume.specs.Planning.{IsPlan}
use Rattle.volume.specs.Sets.{birth_at, is_marked}
use Rattle.volume_theorems.specs.Runs.{VolumeRun, MakesMove, Many}
use Rattle.volume_theorems.specs.Runs.Move.{IsFenced, Accepts}
use Rattle.volume_theorems.specs.Opening.{IsInQuorum, HasGathered, HasShown, HasAsked, AnswersUnder, IsCutSent, IsBest}
use Rattle.volume_guards.specs.Guards.{vote_of}
use Rattle.volume_logs.specs.Histories.{History, log_at}
use Rattle.volume_logs.specs.Emitting.{IsContentIn}
use Rattle.volume_logs.specs.Joining.{IsFrontAbove}
use Rattle.volume_engines.specs.Lives.{Life, Guards}
use Rattle.volume_engines.specs.Emissions.{emitted_by}
use Rattle.volume_engines.specs.Engines.{fenced_by}
use Rattle.volume_engines.proofs.Admissions.{KnowsFresh}
use Rattle.volume_engines.proofs.Bare.{IsBare}
use Rattle.volume_engines.proofs.Sending.{IsOwnProposal, IsOwnGeneration, AllRight}
use Rattle.volume_engines.proofs.Named.{NamesPlan}

-- ---- before a quorum is fenced
abbrev pub pair_at : List (Option AcceptedCut) → ℕ → Option AcceptedCut
pair_at pairs i = slice_index_or pairs i None

-- node i was fenced by engine e at the moment p, before t, in this birth, and had accepted this
pub record IsFencedAs (run : VolumeRun) (guards : Guards) (e t p i b : ℕ) (a : Option AcceptedCut) : Type 0 where
  pub before : p < t
  pub moved : MakesMove run p i (IsFenced e)
  pub birth : (guards p i).birth ≡ b
  pub accepted : a ≡ (guards p i).accepted

-- each node with an entry was fenced so, and another has no pair
pub record KnowsTable (run : VolumeRun) (guards : Guards) (e : ℕ) (life : Life) (n : ℕ) (births : List (Option ℕ)) (pairs : List (Option AcceptedCut)) : Type 0 where
  pub births_long : length births ≡ 15
  pub pairs_long : length pairs ≡ 15
  pub within : (i b : ℕ) → birth_at births i ≡ Some b → i < run.roster
  pub fenced : (i b : ℕ) → birth_at births i ≡ Some b
      → IsFencedAs run guards e (life.moments n) (fenced_by life (suc n) i) i b (pair_at pairs i)
  pub lone : (i : ℕ) → birth_at births i ≡ None → pair_at pairs i ≡ None

pub record KnowsFencing (run : VolumeRun) (guards : Guards) (e : ℕ) (life : Life) (n : ℕ) (f : Fencing) : Type 0 where
  pub generation : f.generation ≡ life.generation
  pub table : KnowsTable run guards e life n f.births f.pairs
  pub fresh : KnowsFresh run (life.moments n) f.fresh

-- ---- after a quorum is fenced
-- the quorum is fenced, and the births of its nodes are those that were fenced
pub record KnowsSession (run : VolumeRun) (guards : Guards) (e : ℕ) (life : Life) (t : ℕ) (s : Session) : Type 0 where
  pub generation : s.generation ≡ life.generation
  pub gathered : HasGathered run e
  pub upto : (run.engines e).gathered ≤ t
  pub quorum : (i : ℕ) → (run.engines e).quorum i ≡ is_marked s.quorum i
  pub long : length s.births ≡ 15
  pub own : (i : ℕ) → IsInQuorum run e i → birth_at s.births i ≡ Some (guards ((run.engines e).fenced i) i).birth

-- the node has shown what it has before the moment t, and the facts have that
abbrev pub HasGiven : VolumeRun → ℕ → ℕ → List Fact → ℕ → Type 0
HasGiven run e t facts i = (p : ℕ) × (p < t) × HasShown run e i p × IsContentIn facts (run.nodes p i).content

-- the union means facts of the log, which have what the nodes of the quorum have shown that are not left
pub record KnowsUnion (run : VolumeRun) (h : History) (e t : ℕ) (u : State) (left : List Bool) : Type 0 where
  pub facts : List Fact
  pub means : Means h.readers (log_at h t) facts u
  pub given : (i : ℕ) → IsInQuorum run e i → (is_marked left i ≡ true → ⊥) → HasGiven run e t facts i

-- each of the nodes has reported a front of the union's epoch, at or above what the plan keeps
pub record IsKnown (run : VolumeRun) (h : History) (e t i : ℕ) (plan : CutPlan) : Type 0 where
  pub within : i < run.roster
  pub moment : ℕ
  pub before : moment < t
  pub answers : AnswersUnder run e moment i
  pub epoch : ℕ
  pub next : epoch + 1 ≡ plan.cut.epoch
  pub front : IsFrontAbove run h moment i epoch plan.cut.lo

abbrev pub AreKnown : VolumeRun → History → ℕ → ℕ → CutPlan → List Bool → Type 0
AreKnown run h e t plan known = (i : ℕ) → is_marked known i ≡ true → IsKnown run h e t i plan

-- each of the nodes has accepted the truncation
abbrev pub HaveAccepted : VolumeRun → ℕ → ℕ → ℕ → List Bool → Type 0
HaveAccepted run e t k accepted =
    (i : ℕ) → is_marked accepted i ≡ true → (i < run.roster) × ((s : ℕ) × (s < t) × MakesMove run s i (Accepts e k))

-- a quorum has
abbrev pub HasVotes : VolumeRun → ℕ → ℕ → ℕ → Type 0
HasVotes run e t k = Many run (λ i. (s : ℕ) × (s < t) × MakesMove run s i (Accepts e k))

abbrev pub KnowsStage : VolumeRun → History → ℕ → ℕ → State → Option AcceptedCut → Stage → Type 0
KnowsStage run h e t u pair (stage.Pulling left) = KnowsUnion run h e t u left
KnowsStage run h e t u pair (stage.Spreading plan known) = KnowsUnion run h e t u [] × IsPlan u pair plan × AreKnown run h e t plan known
KnowsStage run h e t u pair (stage.Proposing plan accepted) =
    KnowsUnion run h e t u [] × IsOwnProposal run e t plan.cut × HaveAccepted run e t plan.cut.epoch accepted × NamesPlan plan (run.engines e)
KnowsStage run h e t u pair (stage.Taking plan reported) =
    KnowsUnion run h e t u [] × IsOwnProposal run e t plan.cut × HasVotes run e t plan.cut.epoch × NamesPlan plan (run.engines e)

pub record KnowsOpening (run : VolumeRun) (h : History) (guards : Guards) (e : ℕ) (life : Life) (t : ℕ) (o : Opening) : Type 0 where
  pub session : KnowsSession run guards e life t o.session
  pub best : IsBest run e (vote_of o.pair)
  pub fresh : KnowsFresh run (run.engines e).gathered o.fresh
  pub bare : IsBare o.summary
  pub at : KnowsStage run h e t o.union o.pair o.stage

-- ---- after the volume is open
-- the life has emitted the fact in one of the first steps, up to step n
abbrev pub Own : Life → ℕ → Fact → Type 0
Own life n fact = Contains (emitted_by life (suc n)) fact

abbrev pub HasOwn : (Fact → Type 0) → List RecordData → Type 0
HasOwn F backlog = (r : RecordData) → Contains backlog r → F (Record r)

abbrev pub KnowsOpen : VolumeRun → ℕ → ℕ → (Fact → Type 0) → Writing → Type 0
KnowsOpen run e t F w = HasAsked run e t × IsCutSent run t w.cut × IsOwnGeneration run e w.session.generation × HasOwn F w.backlog

-- ---- all phases
abbrev pub KnowsPhase : VolumeRun → History → Guards → ℕ → Life → ℕ → Phase → Type 0
KnowsPhase run h guards e life n phase.Idle = Unit {0}
KnowsPhase run h guards e life n (phase.Creating c) = ⊥
KnowsPhase run h guards e life n (phase.Fencing f) = KnowsFencing run guards e life n f
KnowsPhase run h guards e life n (phase.Opening o) = KnowsOpening run h guards e life (life.moments n) o
KnowsPhase run h guards e life n (phase.Open w) = KnowsOpen run e (life.moments n) (Own life n) w

-- the summaries that nodes may have been asked with by then: before a quorum is fenced, none
abbrev pub Allowed : Phase → SummaryData → Type 0
Allowed (phase.Fencing f) s = ⊥
Allowed (phase.Opening o) s = (s ≡ o.summary) ⊎ (o.asked ≡ Some s)
Allowed other s = Unit {0}

abbrev pub Wider : Phase → Phase → Type 0
Wider old new = (s : SummaryData) → Allowed old s → Allowed new s

-- what step n leaves in a phase, with what it asks
pub record Leaves (run : VolumeRun) (h : History) (guards : Guards) (e : ℕ) (life : Life) (n : ℕ) (old new : Phase) (actions : List Action) : Type 0 where
  pub knows : KnowsPhase run h guards e life n new
  pub right : AllRight run h e (Allowed new) (Own life n) (life.moments n) actions
  pub wider : Wider old new

abbrev pub LeavesTurn : VolumeRun → History → Guards → ℕ → Life → ℕ → Phase → Phase → Transition → Type 0
LeavesTurn run h guards e life n old left (turn.Stay asked) = Leaves run h guards e life n old left asked.items
LeavesTurn run h guards e life n old left (turn.Enter next asked) = Leaves run h guards e life n old next asked.items
LeavesTurn run h guards e life n old left (turn.End asked) = Leaves run h guards e life n old phase.Idle asked.items
