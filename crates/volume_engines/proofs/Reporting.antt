-- What a life reports is durable.
use Rattle.std.proofs.Common.{◌≡◌, ℕ, zero, suc, ◌+◌, ◌<◌, ◌≤◌, ◌⊎◌, ⊎_elim, List, [], Bool, true, false, refl, sym, ◌∙◌, subst, ap, arith}
use Rattle.std.specs.Prelude.{slice_set}
use Rattle.std.specs.List.{Contains}
use Rattle.redo_core.specs.Data.{RecordData, CutData}
use Rattle.redo_core.specs.declared.facts.Fact.{Fact}
use Rattle.redo_core.specs.declared.facts.Fact.TheVariants.{Record}
use Rattle.redo_core.proofs.Members.{each, none_in, only}
use Rattle.segment_theorems.specs.State.{State}
use Rattle.replica.specs.declared.replies.Reply.TheVariants as told
use Rattle.replica.specs.Parts.{ReplicaData}
use Rattle.guard.specs.declared.replies.Reply.{Reply}
use Rattle.guard.specs.declared.replies.Reply.TheVariants as reply
use Rattle.volume.specs.declared.actions.Action.{Action}
use Rattle.volume.specs.declared.actions.Action.TheVariants.{Durable}
use Rattle.volume.specs.declared.actions.Fault.{Fault}
use Rattle.volume.specs.declared.errands.Query.{Query}
use Rattle.volume.specs.declared.errands.Query.TheVariants.{Fence}
use Rattle.volume.specs.declared.events.Event.{Event}
use Rattle.volume.specs.declared.events.Event.TheVariants as event
use Rattle.volume.specs.declared.fencing.Fencing.{Fencing}
use Rattle.volume.specs.declared.phases.Opening.{Opening}
use Rattle.volume.specs.declared.phases.Phase.{Phase}
use Rattle.volume.specs.declared.phases.Phase.TheVariants as phase
use Rattle.volume.specs.declared.phases.Stage.{Stage}
use Rattle.volume.specs.declared.phases.Stage.TheVariants as stage
use Rattle.volume.specs.declared.phases.Writing.{Writing}
use Rattle.volume.specs.declared.plans.CutPlan.{CutPlan}
use Rattle.volume.specs.declared.turns.Transition.{Transition}
use Rattle.volume.specs.declared.turns.Transition.TheVariants as turn
use Rattle.volume.specs.Asking.{queries_from}
use Rattle.volume.specs.Data.{VolumeData, volume_of}
use Rattle.volume.specs.Fencing.{new_fencing, PullsQuorum, GoesOn, HearsFencing, RetriesFencing}
use Rattle.volume.specs.Opening.{TakesPlan}
use Rattle.volume.specs.Resuming.{BeginsWriting}
use Rattle.volume.specs.Sets.{is_marked, count_marked}
use Rattle.volume.specs.Settings.{SettingsData}
use Rattle.volume.specs.Stepping.{IsVolumeStep, StartsOpening, CallsOpen, Hears, Retries, Turns}
use Rattle.volume.specs.Turning.{Stays, Enters, StopsWith}
use Rattle.volume.specs.Writing.{WritesPage, EndsTransaction, RaisesPoint, IsLastReached}
use Rattle.volume_theorems.specs.Nodes.{Content}
use Rattle.volume_theorems.specs.Runs.{VolumeRun, MakesMove, Many}
use Rattle.volume_theorems.specs.Runs.Move.{Accepts}
use Rattle.volume_theorems.specs.Opening.{AnswersUnder}
use Rattle.volume_theorems.specs.ByMoment.{HasOpenedBy, IsDurableBy}
use Rattle.volume_logs.specs.Histories.{History}
use Rattle.volume_logs.specs.Joining.{IsFrontAbove}
use Rattle.volume_logs.proofs.Joining.{fronts_make_durable}
use Rattle.volume_engines.specs.Lives.{Life, Guards, WasGiven, MayHappen}
use Rattle.volume_engines.specs.Proposals.{IsLifeIn}
use Rattle.volume_engines.specs.Emissions.{HasEmissions}
use Rattle.volume_engines.specs.Reporting.{ReportsAreDurable}
use Rattle.volume_engines.proofs.Tables.{marked_more}
use Rattle.volume_engines.proofs.Sending.{AllRight}
use Rattle.volume_engines.proofs.Knowing.{Own, KnowsStage, KnowsOpening, KnowsPhase, Allowed}
use Rattle.volume_engines.proofs.Proposing.{many_marked}
use Rattle.volume_engines.proofs.Heard.{IsHeard, heard}
use Rattle.volume_engines.proofs.Steps.{Knows, known}
use Rattle.volume_engines.proofs.Emissions.{emitted_written}
use Rattle.volume_engines.proofs.OpenSteps.{IsSilent, AreSilent, IsFrontHeard, ReportsNone, ReportsPoint, OpenStep, IsRefusedOpening, open_step}
use Rattle.volume_engines.proofs.OpenSteps.OpenStep.{keeps, writes, raises, hears, ends}
use Rattle.volume_engines.proofs.Reaching.{HasReported, HaveReported, own_front, many_reported}
use Rattle.volume_engines.proofs.TakingSteps.{TakingHas, PhaseHas, TurnHas, Agrees, hears_taking, retries_taking}
use Rattle.volume_engines.proofs.Writings.{IsAgreed, agreed_later, KnowsWriting, writing_later, writing_keeps, writing_raises, writing_writes, writing_hears, writing_begins}

taking_more : (P Q : CutPlan → Type 0) → ((plan : CutPlan) → P plan → Q plan) → (st : Stage) → TakingHas P st → TakingHas Q st
taking_more P Q more (stage.Pulling left) is = tt
taking_more P Q more (stage.Spreading plan known) is = tt
taking_more P Q more (stage.Proposing plan accepted) is = tt
taking_more P Q more (stage.Taking plan reported) is = more plan is

abbrev pub IsShut : Phase → Type 0
IsShut (phase.Open w) = ⊥
IsShut other = Unit {0}

queries_silent : (q : Query) (node count : ℕ) → AreSilent (queries_from q node count)
queries_silent q node zero = tt
queries_silent q node (suc count) = (tt, queries_silent q (node + 1) count)

-- what the phase has after a turn
pub turned : (P : CutPlan → Type 0) (W : Writing → Type 0) (old new : VolumeData) (left : Phase) (t : Transition) (actions : List Action) → TurnHas P W left t
    → Turns old left t actions new → PhaseHas P W new.phase
turned P W old new left (turn.Stay asked) actions is says = subst (λ (v : VolumeData). PhaseHas P W v.phase) (sym says.1) is
turned P W old new left (turn.Enter next asked) actions is says = subst (λ (v : VolumeData). PhaseHas P W v.phase) (sym says.1) is
turned P W old new left (turn.End asked) actions is says = subst (λ (v : VolumeData). PhaseHas P W v.phase) (sym says.1) tt

-- ---- before a quorum is fenced
module _ (P : CutPlan → Type 0) (W : Writing → Type 0) (f : Fencing) where
  stays_in : (left : Phase) (t : Transition) (asked : List Action) → PhaseHas P W left → Stays t asked → TurnHas P W left t
  stays_in left (turn.Stay actions) asked is says = is
  stays_in left (turn.Enter next actions) asked is says = absurd says
  stays_in left (turn.End actions) asked is says = tt

  enters_in : (left next : Phase) (t : Transition) (asked : List Action) → PhaseHas P W next → Enters t next asked → TurnHas P W left t
  enters_in left next (turn.Stay actions) asked is says = absurd says
  enters_in left next (turn.Enter p actions) asked is says = subst (PhaseHas P W) (sym says.0) is
  enters_in left next (turn.End actions) asked is says = tt

  stops_in : (left : Phase) (t : Transition) (fault : Fault) → StopsWith t fault → TurnHas P W left t
  stops_in left (turn.Stay actions) fault says = absurd says
  stops_in left (turn.Enter p actions) fault says = absurd says
  stops_in left (turn.End actions) fault says = tt

  abbrev Left : Transition → Type 0
  Left t = TurnHas P W (phase.Fencing f) t

  goes_on : (s : SettingsData) (new : Fencing) (t : Transition) (asked : List Action) → GoesOn s new t asked → Left t
  goes_on s new t asked says = ⊎_elim
      (λ more. enters_in (phase.Fencing f) (phase.Fencing new) t asked tt more.1)
      (λ few. stops_in (phase.Fencing f) t _ few.1)
      says

  pulls : (s : SettingsData) (new : Fencing) (node birth : ℕ) (t : Transition) → PullsQuorum s new node birth t → Left t
  pulls s new node birth (turn.Enter (phase.Opening o) actions) says = subst (TakingHas P) (sym says.0.stage) tt
  pulls s new node birth (turn.Enter phase.Idle actions) says = tt
  pulls s new node birth (turn.Enter (phase.Creating c) actions) says = tt
  pulls s new node birth (turn.Enter (phase.Fencing g) actions) says = tt
  pulls s new node birth (turn.Enter (phase.Open w) actions) says = absurd says
  pulls s new node birth (turn.Stay actions) says = tt
  pulls s new node birth (turn.End actions) says = tt

  fences : (s : SettingsData) (node : ℕ) (shown : Reply) (t : Transition) → HearsFencing s f node shown t → Left t
  fences s node (reply.Fenced generation birth accepted) t says = ⊎_elim
      (λ own. ⊎_elim
      (λ few. enters_in (phase.Fencing f) (phase.Fencing _) t [] tt few.1)
      (λ enough. pulls s _ node birth t enough.1)
      own.1)
      (λ no. stays_in (phase.Fencing f) t [] tt no.1)
      says
  fences s node (reply.Fresh birth) t says = goes_on s _ t [] says
  fences s node (reply.Stale generation) t says = ⊎_elim
      (λ up. stops_in (phase.Fencing f) t _ up.1)
      (λ rest. ⊎_elim
      (λ own. goes_on s _ t [] own.2)
      (λ no. stays_in (phase.Fencing f) t [] tt no.1)
      rest)
      says
  fences s node other t says = stays_in (phase.Fencing f) t [] tt says

  refences : (s : SettingsData) (node : ℕ) (t : Transition) → RetriesFencing s f node t → Left t
  refences s node t says = ⊎_elim
      (λ no. stays_in (phase.Fencing f) t [] tt no.1)
      (λ yes. goes_on s _ t _ yes.1)
      says

module _ (run : VolumeRun) (h : History) (stop : ℕ) (content : ReplicaData → Content) (guards : Guards) (e : ℕ) (life : Life) (count : ℕ)
    (is : IsLifeIn run h stop content guards e life count) where
  abbrev Plan_at : ℕ → CutPlan → Type 0
  Plan_at n plan = IsAgreed run e (life.moments n) plan

  abbrev Has : ℕ → Phase → Type 0
  Has n p = PhaseHas (Plan_at n) (KnowsWriting run h e life n) p

  module _ (n : ℕ) (step : suc n < count) where
    pub order : life.moments n ≤ life.moments (suc n)
    order = is.lives.in_time n step

    pub knows : Knows run h stop content guards e life count is n (life.states (suc n))
    knows = known run h stop content guards e life count is n (omega arith)

    abbrev Old : VolumeData
    Old = life.states (suc n)

    abbrev New : VolumeData
    New = life.states (suc (suc n))

    later : (p : Phase) → Has n p → Has (suc n) p
    later phase.Idle has = tt
    later (phase.Creating c) has = tt
    later (phase.Fencing f) has = tt
    later (phase.Opening o) has = taking_more (Plan_at n) (Plan_at (suc n)) (λ plan agreed. agreed_later run e (life.moments n) (life.moments (suc n)) plan order agreed) o.stage has
    later (phase.Open w) has = writing_later run h e life n w order has

    same_phase : (p : Phase) → Old.phase ≡ p → New ≡ Old → Has n p → Has (suc n) New.phase
    same_phase p at same has = subst (Has (suc n)) (sym (ap (λ (v : VolumeData). v.phase) same ∙ at)) (later p has)

    pub quorum_is : Old.settings.quorum ≡ run.quorum
    quorum_is = ap (λ (s : SettingsData). s.quorum) knows.settings ∙ is.lives.quorum

    nodes_are : Old.settings.nodes ≡ run.roster
    nodes_are = ap (λ (s : SettingsData). s.nodes) knows.settings ∙ is.lives.nodes

    pub refused : (happens : Event) → MayHappen run guards e life (suc n) happens → IsRefusedOpening Old happens
    refused event.Create may = let own : Old.generation ≡ life.generation = knows.generation in let above : (life.states 0).generation < life.generation = is.lives.above in omega arith
    refused (event.Open generation) may = let own : Old.generation ≡ life.generation = knows.generation in let low : generation ≤ life.generation = may in omega arith
    refused (event.Write page init patches) may = tt
    refused (event.Commit header) may = tt
    refused (event.Advance reader point) may = tt
    refused (event.Answered node shown) may = tt
    refused (event.Failed node) may = tt

    -- ---- an open volume
    module _ (w : Writing) (at : Old.phase ≡ phase.Open w) (k : KnowsWriting run h e life n w) where
      sent : (m : ℕ) → m < suc n → AllRight run h e (λ s. Unit {0}) (Own life m) (life.moments m) (life.actions m)
      sent = subst (λ (p : Phase). (m : ℕ) → m < suc n → AllRight run h e (Allowed p) (Own life m) (life.moments m) (life.actions m)) at knows.sent

      front_heard : (node point : ℕ) → IsFrontHeard Old.settings.nodes w (life.events (suc n)) node point
          → HasReported run h e (life.moments (suc n)) w.cut.epoch point node
      front_heard node point x =
          let given : WasGiven run guards e life (suc n) node (reply.Headed x.generation x.birth (told.Front x.front)) =
          subst (λ (ev : Event). MayHappen run guards e life (suc n) ev) x.heard (is.lives.heard n step) in
          let one : IsHeard run guards e life (suc n) (λ s. Unit {0}) node x.generation x.birth (told.Front x.front) =
          heard run h guards e life (suc n) (λ s. Unit {0}) node x.generation x.birth (told.Front x.front) sent given in
          let front : HasReported run h e (life.moments (suc n)) x.front.epoch x.front.complete node =
          own_front run h stop content guards e life count is (suc n) step (λ s. Unit {0}) node x.generation x.birth x.front (x.own.0 ∙ k.generation) one in
          subst (λ (m : ℕ). HasReported run h e (life.moments (suc n)) w.cut.epoch m node) x.complete
          (subst (λ (m : ℕ). HasReported run h e (life.moments (suc n)) m x.front.complete node) x.epoch front)

      pub opens_on : OpenStep Old.settings.nodes Old.settings.quorum w (life.events (suc n)) (life.actions (suc n)) New.phase → Has (suc n) New.phase
      opens_on (keeps x to same silent gives) = subst (Has (suc n)) (sym to) (writing_keeps run h e life n w x order k at to same)
      opens_on (writes x redo to does formed silent gives) = subst (Has (suc n)) (sym to) (writing_writes run h e life n w x order k at to redo does formed gives)
      opens_on (raises x reader point to does silent gives) = subst (Has (suc n)) (sym to) (writing_raises run h e life n w x order k at to reader point does)
      opens_on (hears x node point to is_heard counts reports gives) =
          let roster : Old.settings.nodes ≡ run.roster = nodes_are in
          let within : node < Old.settings.nodes = is_heard.within in
          let most : (life.states 0).settings.nodes ≤ 15 = is.lives.settings.most in
          let same : (life.states 0).settings.nodes ≡ run.roster = is.lives.nodes in
          subst (Has (suc n)) (sym to)
          (writing_hears run h e life n w x order k at to node point counts (omega arith) (omega arith) (front_heard node point is_heard)
          (subst (λ (q : ℕ). ReportsNone w x (life.actions (suc n)) ⊎ ReportsPoint q w x (life.actions (suc n))) quorum_is reports))
      opens_on (ends to silent) = subst (Has (suc n)) (sym to) tt

    -- ---- an opening
    module _ (o : Opening) (at : Old.phase ≡ phase.Opening o) where
      opening : KnowsOpening run h guards e life (life.moments n) o
      opening = subst (λ (p : Phase). KnowsPhase run h guards e life n p) at knows.knows

      agrees : (node : ℕ) (shown : Reply) → node < run.roster → WasGiven run guards e life (suc n) node shown
          → Agrees (Plan_at (suc n)) Old.settings.quorum o node shown
      agrees node (reply.Accepted generation birth epoch) within given = λ plan accepted proposing epoch_is enough.
          let stage_at : KnowsStage run h e (life.moments n) o.union o.pair (stage.Proposing plan accepted) =
          subst (KnowsStage run h e (life.moments n) o.union o.pair) proposing opening.at in
          let T : ℕ = life.moments (suc n) in
          let k : ℕ = plan.cut.epoch in
          let after : List Bool = slice_set accepted node true in
          let moved : MakesMove run (life.given (suc n)) node (Accepts e k) = subst (λ (m : ℕ). MakesMove run (life.given (suc n)) node (Accepts e m)) epoch_is given.moved in
          let all : (i : ℕ) → is_marked after i ≡ true → (i < run.roster) × ((s : ℕ) × (s < T) × MakesMove run s i (Accepts e k)) = λ i marked. ⊎_elim
          (λ (here : i ≡ node). (
            subst (λ (j : ℕ). j < run.roster) (sym here) within,
            subst (λ (j : ℕ). (s : ℕ) × (s < T) × MakesMove run s j (Accepts e k)) (sym here) (life.given (suc n), given.before, moved),
          ))
          (λ (before : is_marked accepted i ≡ true).
          let x = stage_at.2 i before in
          let early : x.1.0 < life.moments n = x.1.1 in
          (x.0, (x.1.0, (let low : life.moments n ≤ life.moments (suc n) = order in omega arith), x.1.2)))
          (marked_more accepted node i marked) in
          record {
            below = stage_at.1.1.union.epoch;
            epoch = stage_at.1.1.next;
            named = stage_at.3;
            accepted = many_marked run after (λ i. (s : ℕ) × (s < T) × MakesMove run s i (Accepts e k))
                (subst (λ (m : ℕ). m ≤ count_marked after) quorum_is enough) all;
          }
      agrees node other within given = tt

      opens : (plan : CutPlan) (union : State) (w : Writing) → Plan_at (suc n) plan → plan.is_pending ≡ false → TakesPlan o.union plan.cut union
          → BeginsWriting o.session union plan.cut w → KnowsWriting run h e life (suc n) w
      opens plan union w agreed own taken begins = writing_begins run h e life (suc n) o.session union plan w opening.session.generation agreed own begins

      hears_on : (node : ℕ) (shown : Reply) (left : Phase) (t : Transition) → node < run.roster → WasGiven run guards e life (suc n) node shown → Has n (phase.Opening o)
          → Hears Old.settings (phase.Opening o) node shown left t → Turns Old left t (life.actions (suc n)) New → Has (suc n) New.phase
      hears_on node shown (phase.Opening p) t within given has says turns =
          turned (Plan_at (suc n)) (KnowsWriting run h e life (suc n)) Old New (phase.Opening p) t (life.actions (suc n))
          (hears_taking (Plan_at (suc n)) (KnowsWriting run h e life (suc n)) Old.settings.quorum node o (later (phase.Opening o) has) opens shown p t
          (agrees node shown within given) says) turns
      hears_on node shown phase.Idle t within given has says turns = absurd says
      hears_on node shown (phase.Creating c) t within given has says turns = absurd says
      hears_on node shown (phase.Fencing f) t within given has says turns = absurd says
      hears_on node shown (phase.Open w) t within given has says turns = absurd says

      retries_on : (node : ℕ) (t : Transition) → Has n (phase.Opening o) → Retries Old.settings (phase.Opening o) node t
          → Turns Old (phase.Opening o) t (life.actions (suc n)) New → Has (suc n) New.phase
      retries_on node t has says turns =
          turned (Plan_at (suc n)) (KnowsWriting run h e life (suc n)) Old New (phase.Opening o) t (life.actions (suc n))
          (retries_taking (Plan_at (suc n)) (KnowsWriting run h e life (suc n)) Old.settings.quorum node o (later (phase.Opening o) has) opens t says) turns

    -- ---- any other phase
    idle_on : (left : Phase) (t : Transition) → Stays t [] → left ≡ phase.Idle → TurnHas (Plan_at (suc n)) (KnowsWriting run h e life (suc n)) left t
    idle_on left (turn.Stay asked) stays same = subst (Has (suc n)) (sym same) tt
    idle_on left (turn.Enter next asked) stays same = absurd stays
    idle_on left (turn.End asked) stays same = tt

    abbrev Turned : Phase → Transition → Type 0
    Turned left t = TurnHas (Plan_at (suc n)) (KnowsWriting run h e life (suc n)) left t

    ends_turn : (left : Phase) (t : Transition) → Turned left t → Turns Old left t (life.actions (suc n)) New → Has (suc n) New.phase
    ends_turn left t has turns = turned (Plan_at (suc n)) (KnowsWriting run h e life (suc n)) Old New left t (life.actions (suc n)) has turns

    hears_in : (p left : Phase) (t : Transition) (node : ℕ) (shown : Reply) → IsShut p → Old.phase ≡ p → node < Old.settings.nodes
        → WasGiven run guards e life (suc n) node shown → Has n p → Hears Old.settings p node shown left t → Turns Old left t (life.actions (suc n)) New
        → Has (suc n) New.phase
    hears_in phase.Idle left t node shown shut at within given has says turns = ends_turn left t (idle_on left t says.0 says.1) turns
    hears_in (phase.Creating c) left t node shown shut at within given has says turns =
        absurd (subst (λ (p : Phase). KnowsPhase run h guards e life n p) at knows.knows)
    hears_in (phase.Fencing f) left t node shown shut at within given has says turns =
        ends_turn left t
        (subst (λ (p : Phase). Turned p t) (sym says.1)
        (fences (Plan_at (suc n)) (KnowsWriting run h e life (suc n)) f Old.settings node shown t says.0)) turns
    hears_in (phase.Opening o) left t node shown shut at within given has says turns =
        hears_on o at node shown left t (let roster : Old.settings.nodes ≡ run.roster = nodes_are in omega arith) given has says turns
    hears_in (phase.Open w) left t node shown shut at within given has says turns = absurd shut

    retries_in : (p : Phase) (t : Transition) (node : ℕ) → IsShut p → Old.phase ≡ p → Has n p → Retries Old.settings p node t
        → Turns Old p t (life.actions (suc n)) New → Has (suc n) New.phase
    retries_in phase.Idle t node shut at has says turns = ends_turn phase.Idle t (idle_on phase.Idle t says refl) turns
    retries_in (phase.Creating c) t node shut at has says turns = absurd (subst (λ (p : Phase). KnowsPhase run h guards e life n p) at knows.knows)
    retries_in (phase.Fencing f) t node shut at has says turns =
        ends_turn (phase.Fencing f) t (refences (Plan_at (suc n)) (KnowsWriting run h e life (suc n)) f Old.settings node t says) turns
    retries_in (phase.Opening o) t node shut at has says turns = retries_on o at node t has says turns
    retries_in (phase.Open w) t node shut at has says turns = absurd shut

    calls_in : (does : Writing → List Action → Writing → Type 0) (p : Phase) → IsShut p → Old.phase ≡ p → Has n p
        → CallsOpen does Old p (life.actions (suc n)) New → Has (suc n) New.phase
    calls_in does phase.Idle shut at has says = same_phase phase.Idle at says.1 has
    calls_in does (phase.Creating c) shut at has says = same_phase (phase.Creating c) at says.1 has
    calls_in does (phase.Fencing f) shut at has says = same_phase (phase.Fencing f) at says.1 has
    calls_in does (phase.Opening o) shut at has says = same_phase (phase.Opening o) at says.1 has
    calls_in does (phase.Open w) shut at has says = absurd shut

    by_event : (happens : Event) (p : Phase) → IsShut p → Old.phase ≡ p → Has n p → MayHappen run guards e life (suc n) happens
        → IsVolumeStep Old happens (life.actions (suc n)) New → Has (suc n) New.phase
    by_event event.Create p shut at has may says = ⊎_elim
        (λ no. same_phase p at no.1.1 has)
        (λ first. let none : Old.generation ≡ 0 = first.0 in let some : 0 < Old.generation = refused event.Create may in absurd (omega arith))
        says
    by_event (event.Open generation) p shut at has may says = ⊎_elim
        (λ no. same_phase p at no.1.1 has)
        (λ up.
        let more : Old.generation < generation = up.0 in
        let low : generation ≤ Old.generation = refused (event.Open generation) may in absurd (omega arith))
        says
    by_event (event.Write page init patches) p shut at has may says =
        calls_in _ p shut at has (subst (λ (q : Phase). CallsOpen (λ v asked after. WritesPage v page init patches.items asked after) Old q (life.actions (suc n)) New) at says)
    by_event (event.Commit header) p shut at has may says =
        calls_in _ p shut at has (subst (λ (q : Phase). CallsOpen (λ v asked after. EndsTransaction v header.items asked after) Old q (life.actions (suc n)) New) at says)
    by_event (event.Advance reader point) p shut at has may says =
        calls_in _ p shut at has (subst (λ (q : Phase). CallsOpen (λ v asked after. RaisesPoint v reader point asked after) Old q (life.actions (suc n)) New) at says)
    by_event (event.Answered node shown) p shut at has may says = ⊎_elim
        (λ out. same_phase p at out.2 has)
        (λ inside.
        hears_in p inside.1.0 inside.1.1 node shown shut at inside.0 may has
        (subst (λ (q : Phase). Hears Old.settings q node shown inside.1.0 inside.1.1) at inside.1.2) inside.1.3)
        says
    by_event (event.Failed node) p shut at has may says = ⊎_elim
        (λ out. same_phase p at out.2 has)
        (λ inside.
        retries_in p inside.1.0 node shut at has (subst (λ (q : Phase). Retries Old.settings q node inside.1.0) at inside.1.1)
        (subst (λ (q : Phase). Turns Old q inside.1.0 (life.actions (suc n)) New) at inside.1.2))
        says

    -- ---- one step
    pub the_step : IsVolumeStep Old (life.events (suc n)) (life.actions (suc n)) New
    the_step = is.lives.steps (suc n) step

    pub step_of : (w : Writing) → Old.phase ≡ phase.Open w → OpenStep Old.settings.nodes Old.settings.quorum w (life.events (suc n)) (life.actions (suc n)) New.phase
    step_of w at = open_step Old New w (life.actions (suc n)) (life.events (suc n)) at (refused (life.events (suc n)) (is.lives.heard n step)) the_step

    goes : (p : Phase) → Old.phase ≡ p → Has n p → Has (suc n) New.phase
    goes phase.Idle at has = by_event (life.events (suc n)) phase.Idle tt at has (is.lives.heard n step) the_step
    goes (phase.Creating c) at has = by_event (life.events (suc n)) (phase.Creating c) tt at has (is.lives.heard n step) the_step
    goes (phase.Fencing f) at has = by_event (life.events (suc n)) (phase.Fencing f) tt at has (is.lives.heard n step) the_step
    goes (phase.Opening o) at has = by_event (life.events (suc n)) (phase.Opening o) tt at has (is.lives.heard n step) the_step
    goes (phase.Open w) at has = opens_on w at has (step_of w at)

  pub first_phase : 0 < count → (v : VolumeData) × (v.phase ≡ phase.Fencing (new_fencing life.generation)) × (life.states 1 ≡ v) × AreSilent (life.actions 0)
  first_phase step =
      let starts : StartsOpening (life.states 0) life.generation (life.actions 0) (life.states 1) =
      subst (λ (ev : Event). IsVolumeStep (life.states 0) ev (life.actions 0) (life.states 1)) is.lives.opens (is.lives.steps 0 step) in
      ⊎_elim
      (λ no.
      let low : life.generation ≤ (life.states 0).generation = no.0 in
      let above : (life.states 0).generation < life.generation = is.lives.above in
      absurd (omega arith))
      (λ up. (
        volume_of (life.states 0).settings life.generation (phase.Fencing (new_fencing life.generation)),
        refl,
        up.2,
        subst AreSilent (sym up.1) (queries_silent (Fence life.generation) 0 (life.states 0).settings.nodes),
      ))
      starts

  -- after each step
  pub known_more : (n : ℕ) → n < count → Has n (life.states (suc n)).phase
  known_more zero step =
      let x = first_phase step in
      subst (λ (v : VolumeData). Has 0 v.phase) (sym x.2) (subst (Has 0) (sym x.1) tt)
  known_more (suc n) step = goes n step (life.states (suc n)).phase refl (known_more n (omega arith))

  -- ---- reports
  silent_not : (actions : List Action) (point : ℕ) → AreSilent actions → Contains actions (Durable point) → ⊥
  silent_not actions point silent inside = each IsSilent actions (Durable point) silent inside

  pub reported : (n point : ℕ) (w x : Writing) (step : suc n < count) → KnowsWriting run h e life n w → KnowsWriting run h e life (suc n) x → x.cut ≡ w.cut
      → HasEmissions h life count stop w.cut.epoch → IsLastReached run.quorum w.backlog x.reached point → IsDurableBy run (life.moments (suc n)) e w.cut.epoch point
  reported n point w x step before after same has licensed =
      let r : RecordData = licensed.0 in
      let T : ℕ = life.moments (suc n) in
      let upto : T ≤ stop = is.upto (suc n) step in
      let had = before.backlog r licensed.1 in
      let written : Contains (h.written T w.cut.epoch) (Record r) =
      subst (λ (fs : List Fact). Contains fs (Record r)) (sym (emitted_written h life count stop w.cut.epoch (suc n) has step upto)) had.1 in
      let fronts : HaveReported run h e T w.cut.epoch x.reached = subst (λ (c : CutData). HaveReported run h e T c.epoch x.reached) same after.reached in
      let many : Many run (HasReported run h e T w.cut.epoch r.number) =
      many_reported run h e T w.cut.epoch r.number run.quorum x.reached had.0 refl fronts licensed.2.1 in
      let opened : HasOpenedBy run T e w.cut.epoch = subst (λ (c : CutData). HasOpenedBy run T e c.epoch) same after.opened in
      let mine : IsDurableBy run T e (suc before.below) r.number =
      fronts_make_durable run h stop T e before.below r is.follows is.emitted upto
      (subst (λ (k : ℕ). HasOpenedBy run T e k) before.epoch opened)
      (subst (λ (k : ℕ). Contains (h.written T k) (Record r)) before.epoch written) licensed.2.0
      (subst (λ (k : ℕ). Many run (λ i. (s : ℕ) × (s ≤ T) × AnswersUnder run e s i × IsFrontAbove run h s i k r.number)) before.epoch
      (many.0, many.1, λ i among. let y = many.2 i among in let early : y.0 < T = y.1 in (y.0, omega arith, y.2, y.3))) in
      subst (λ (p : ℕ). IsDurableBy run T e w.cut.epoch p) licensed.3 (subst (λ (k : ℕ). IsDurableBy run T e k r.number) (sym before.epoch) mine)

  reports : (n point : ℕ) (w : Writing) → n < count → (life.states n).phase ≡ phase.Open w → HasEmissions h life count stop w.cut.epoch
      → Contains (life.actions n) (Durable point) → IsDurableBy run (life.moments n) e w.cut.epoch point
  reports zero point w step at has inside = absurd (silent_not (life.actions 0) point (first_phase step).3 inside)
  reports (suc n) point w step at has inside =
      let k : KnowsWriting run h e life n w = subst (Has n) at (known_more n (omega arith)) in
      let after : Has (suc n) (life.states (suc (suc n))).phase = known_more (suc n) step in
      by_step (step_of n step w at) k after
    where
      by_step : OpenStep (life.states (suc n)).settings.nodes (life.states (suc n)).settings.quorum w (life.events (suc n)) (life.actions (suc n)) (life.states (suc (suc n))).phase
          → KnowsWriting run h e life n w → Has (suc n) (life.states (suc (suc n))).phase → IsDurableBy run (life.moments (suc n)) e w.cut.epoch point
      by_step (keeps x to same silent gives) k after = absurd (silent_not (life.actions (suc n)) point silent inside)
      by_step (writes x redo to does formed silent gives) k after = absurd (silent_not (life.actions (suc n)) point silent inside)
      by_step (raises x reader p to does silent gives) k after = absurd (silent_not (life.actions (suc n)) point silent inside)
      by_step (ends to silent) k after = absurd (silent_not (life.actions (suc n)) point silent inside)
      by_step (hears x node p to is_heard counts said gives) k after = ⊎_elim
          (λ none. absurd (none_in (Durable point) (subst (λ (xs : List Action). Contains xs (Durable point)) none.2 inside)))
          (λ some.
          let same : Durable some.0 ≡ Durable point = only (Durable some.0) (Durable point) (subst (λ (xs : List Action). Contains xs (Durable point)) some.4 inside) in
          let itself : some.0 ≡ point = cc in
          subst (λ (q : ℕ). IsDurableBy run (life.moments (suc n)) e w.cut.epoch q) itself
          (reported n some.0 w x step k (subst (Has (suc n)) to after) counts.same.1 has
          (subst (λ (q : ℕ). IsLastReached q w.backlog x.reached some.0) (quorum_is n step) some.1)))
          said

pub reports_are_durable : ReportsAreDurable
reports_are_durable run h stop content guards e life count is n point w step at has inside = reports run h stop content guards e life count is n point w step at has inside
