-- An opening after a quorum is fenced.
use Rattle.std.specs.Prelude.{◌≡◌, ◌≢◌, ℕ, ◌+◌, ◌<◌, ◌≤◌, ◌⊎◌, List, [], ◌++◌, Bool, true, false, Option, Some, None, slice_set, if◌then◌else◌}
use Rattle.redo_core.specs.Data.{CutData}
use Rattle.redo_core.specs.declared.facts.Fact.TheVariants as fact
use Rattle.messages.specs.Summaries.{SummaryData}
use Rattle.messages.specs.Deltas.{DeltaData}
use Rattle.segment_theorems.specs.State.{State}
use Rattle.segment_theorems.specs.Promises.{TakesFact}
use Rattle.segment_theorems.specs.Learning.{StoresCut}
use Rattle.segment_core.specs.Forgetting.{IsFirstBreak}
use Rattle.segment_core.specs.Reading.{IsFrontOf}
use Rattle.segment_core.specs.Refusing.{Refuses}
use Rattle.segment_core.specs.declared.answers.Refusal.{Refusal}
use Rattle.segment_core.specs.declared.answers.Refusal.TheVariants.{Memory}
use Rattle.segment_core.specs.declared.answers.Front.{Front}
use Rattle.segment_core.specs.declared.answers.Taken.{Taken}
use Rattle.segment_core.specs.declared.answers.Taken.TheVariants.{Changed, Unchanged}
use Rattle.gossip_core.specs.Absorbing.{MeansBoth, Answers, AbsorbsInto, RefusesAbsorb}
use Rattle.gossip_core.specs.declared.absorbing.AbsorbRefusal.{AbsorbRefusal}
use Rattle.gossip_core.specs.declared.absorbing.AbsorbRefusal.TheVariants.{Refused as RefusedFor}
use Rattle.gossip_core.specs.Replying.{FillsSummary, AnswersSummary}
use Rattle.gossip_core.specs.Summarizing.{Summarizes}
use Rattle.replica.specs.declared.replies.Reply.{Reply as SegmentReply}
use Rattle.replica.specs.declared.replies.Reply.TheVariants as segment
use Rattle.guard.specs.declared.replies.Reply.{Reply}
use Rattle.guard.specs.declared.replies.Reply.TheVariants as reply
use Rattle.volume.specs.declared.actions.Action.{Action}
use Rattle.volume.specs.declared.actions.Fault.{Fault}
use Rattle.volume.specs.declared.actions.Fault.TheVariants.{Fenced, NoQuorum, Damaged}
use Rattle.volume.specs.declared.errands.Errand.{Errand}
use Rattle.volume.specs.declared.errands.Errand.TheVariants as errand
use Rattle.volume.specs.declared.errands.Joining.{Joining}
use Rattle.volume.specs.declared.phases.Opening.{Opening}
use Rattle.volume.specs.declared.phases.Stage.{Stage}
use Rattle.volume.specs.declared.phases.Stage.TheVariants as stage
use Rattle.volume.specs.declared.phases.Session.{Session}
use Rattle.volume.specs.declared.plans.CutPlan.{CutPlan}
use Rattle.volume.specs.declared.turns.Transition.{Transition}
use Rattle.volume.specs.Sets.{birth_at, is_marked, count_marked, marks_of, no_nodes, no_births}
use Rattle.volume.specs.declared.errands.Query.TheVariants.{Fence}
use Rattle.volume.specs.Asking.{asks_from, asks_at, query_to}
use Rattle.volume.specs.Planning.{IsPlan, IsPlanFault}
use Rattle.volume.specs.Resuming.{OpensVolume}
use Rattle.volume.specs.Sessions.{IsOwn, IsLate, with_birth}
use Rattle.volume.specs.Turning.{Stays, StopsWith}

-- ---- openings
abbrev pub opened_with : Opening → Session → State → List (Option ℕ) → Stage → Opening
opened_with o session union fresh stage =
    record { session = session; pair = o.pair; fresh = fresh; union = union; summary = o.summary; asked = o.asked; stage = stage }

-- at another stage
abbrev pub at_stage : Opening → Stage → Opening
at_stage o stage = opened_with o o.session o.union o.fresh stage

-- with another union, at another stage
abbrev pub with_union : Opening → State → Stage → Opening
with_union o union stage = opened_with o o.session union o.fresh stage

-- an errand to each node whose birth is known
abbrev pub to_each : Opening → Errand → List Action
to_each o e = asks_from o.session.generation e 0 o.session.births

-- the turn ends with a fault, and the opening is as it was
abbrev pub EndsAlone : Opening → Opening → Transition → Fault → Type 0
EndsAlone old new turn fault = StopsWith turn fault × (new ≡ old)

-- nothing happens
abbrev pub ChangesNothing : Opening → Opening → Transition → Type 0
ChangesNothing old new turn = Stays turn [] × (new ≡ old)

-- so many nodes as a quorum takes
abbrev pub IsQuorum : ℕ → List Bool → Type 0
IsQuorum quorum nodes = quorum ≤ count_marked nodes

-- with a union whose summary the nodes are asked with
abbrev pub asking_with : Opening → State → SummaryData → Stage → Opening
asking_with o union asked stage =
    record { session = o.session; pair = o.pair; fresh = o.fresh; union = union; summary = o.summary; asked = Some asked; stage = stage }

-- the summary that a node of the quorum is asked with
abbrev pub asked_of : Option SummaryData → SummaryData → SummaryData
asked_of None bare = bare
asked_of (Some asked) bare = asked

abbrev pub asked_with : Opening → SummaryData
asked_with o = asked_of o.asked o.summary

-- ---- what the quorum has
-- the union has what another segment has beyond any summary that the union answers for, such as this one
pub record GrowsBy (old : State) (summary : SummaryData) (delta : DeltaData) (new : State) : Type 0 where
  pub means : (made : SummaryData) → Answers old made → MeansBoth old made delta new
  pub answers : Answers old summary
  pub absorbs : AbsorbsInto old delta new

-- the union refuses what the other segment has, and not for lack of memory
abbrev pub RefusesDelta : State → SummaryData → DeltaData → Type 0
RefusesDelta union summary delta = (why : AbsorbRefusal) × RefusesAbsorb union summary delta why × (why ≢ RefusedFor Memory)

-- the union is made known, up to what comes next for it
abbrev pub Plans : Opening → State → Opening → Transition → Type 0
Plans old union new turn =
    ((plan : CutPlan) × IsPlan union old.pair plan × (new ≡ with_union old union (stage.Spreading plan no_nodes)) × Stays turn (to_each old errand.Ask))
    ⊎ ((fault : Fault) × IsPlanFault union fault × EndsAlone old new turn fault)

-- the nodes are asked for what they have beyond the union, by its summary
abbrev pub AsksWith : Opening → List Bool → State → Option SummaryData → Opening → Transition → Type 0
AsksWith old left union None new turn = ⊥
AsksWith old left union (Some asked) new turn =
    Summarizes union asked × (new ≡ asking_with old union asked (stage.Pulling left)) × Stays turn (to_each old (errand.Pull asked))

abbrev pub PullsOthers : Opening → List Bool → State → Opening → Transition → Type 0
PullsOthers old left union new turn = AsksWith old left union new.asked new turn

-- once the first has answered, the others are asked; when none is left, the union is made known
abbrev pub GoesOnPulling : Opening → State → List Bool → Opening → Transition → Type 0
GoesOnPulling old union left new turn =
    ((0 < count_marked left) × (old.asked ≡ None) × PullsOthers old left union new turn)
    ⊎ ((0 < count_marked left) × (old.asked ≢ None) × (new ≡ with_union old union (stage.Pulling left)) × Stays turn [])
    ⊎ ((count_marked left ≡ 0) × Plans old union new turn)

-- One of those that are left has answered what it has. What does not fit ends the opening.
abbrev pub Pulls : Opening → ℕ → List Bool → DeltaData → Opening → Transition → Type 0
Pulls old node left delta new turn =
    (RefusesDelta old.union (asked_with old) delta × EndsAlone old new turn Damaged)
    ⊎ ((union : State) × GrowsBy old.union (asked_with old) delta union × GoesOnPulling old union (slice_set left node false) new turn)

abbrev pub HearsDelta : Opening → Stage → ℕ → DeltaData → Opening → Transition → Type 0
HearsDelta old (stage.Pulling left) node delta new turn =
    ((is_marked left node ≡ true) × Pulls old node left delta new turn) ⊎ ((is_marked left node ≡ false) × ChangesNothing old new turn)
HearsDelta old other node delta new turn = ChangesNothing old new turn

-- ---- what a quorum knows
-- the delta has what the segment has beyond the summary
pub record FillsFor (union : State) (summary : SummaryData) (delta : DeltaData) : Type 0 where
  pub fills : FillsSummary union summary delta
  pub answers : AnswersSummary union summary delta

-- the answer to the summary needs pages, and a block chain of one is broken
abbrev pub BreaksChain : State → SummaryData → Type 0
BreaksChain union summary = (summary.anchor < union.base) × ((page n : ℕ) × IsFirstBreak union page n)

-- a node gets what the union has beyond its own summary, and is asked for its front
abbrev pub Pushes : Opening → ℕ → SummaryData → Opening → Transition → Type 0
Pushes old node summary new turn =
    (BreaksChain old.union summary × EndsAlone old new turn Damaged)
    ⊎ ((delta : DeltaData) × FillsFor old.union summary delta × (new ≡ old)
    × Stays turn (asks_at old.session.generation (errand.Push summary delta) node (birth_at old.session.births node)))

abbrev pub HearsSummary : Opening → Stage → ℕ → SummaryData → Opening → Transition → Type 0
HearsSummary old (stage.Spreading plan known) node summary new turn = Pushes old node summary new turn
HearsSummary old other node summary new turn = ChangesNothing old new turn

-- the front is of the union's epoch, and at or above what the plan keeps
abbrev pub IsKnownAt : CutPlan → Front → Type 0
IsKnownAt plan front = (front.epoch + 1 ≡ plan.cut.epoch) × (plan.cut.lo ≤ front.complete)

-- a node of the quorum that has a later epoch is asked again for what it has
abbrev pub PullsAgain : Opening → ℕ → Opening → Transition → Type 0
PullsAgain old node new turn =
    ((is_marked old.session.quorum node ≡ false) × ChangesNothing old new turn)
    ⊎ ((is_marked old.session.quorum node ≡ true) × (new ≡ at_stage old (stage.Pulling (slice_set no_nodes node true)))
    × Stays turn (asks_at old.session.generation (errand.Pull (asked_with old)) node (birth_at old.session.births node)))

-- what a fresh node must have reached is the front of the union, and it gets the greatest accepted truncation of the quorum
abbrev pub joining_of : Opening → Front → Joining
joining_of o front = record { epoch = front.epoch; complete = front.complete; accepted = o.pair }

-- each fresh node is sent what the union has, and is then admitted
abbrev pub AdmitsFresh : Opening → List Action → Type 0
AdmitsFresh o joins =
    ((count_marked (marks_of o.fresh) ≡ 0) × (joins ≡ []))
    ⊎ ((delta : DeltaData) × (front : Front) × FillsFor o.union o.summary delta × IsFrontOf o.union front
    × (joins ≡ asks_from o.session.generation (errand.Join o.summary delta (joining_of o front)) 0 o.fresh))

-- the fresh nodes are admitted, once, and the plan is proposed
abbrev pub ProposesPlan : Opening → CutPlan → Opening → Transition → Type 0
ProposesPlan old plan new turn =
    (BreaksChain old.union old.summary × EndsAlone old new turn Damaged)
    ⊎ ((joins : List Action) × AdmitsFresh old joins
    × (new ≡ opened_with old old.session old.union no_births (stage.Proposing plan no_nodes))
    × Stays turn (joins ++ to_each old (errand.Propose plan.cut)))

-- the plan is proposed when a quorum knows what it keeps
abbrev pub Knows : ℕ → Opening → CutPlan → List Bool → Opening → Transition → Type 0
Knows quorum old plan known new turn =
    (¬ (IsQuorum quorum known) × (new ≡ at_stage old (stage.Spreading plan known)) × Stays turn [])
    ⊎ (IsQuorum quorum known × ProposesPlan old plan new turn)

abbrev pub HearsKnown : ℕ → Opening → Stage → ℕ → Front → Opening → Transition → Type 0
HearsKnown quorum old (stage.Spreading plan known) node front new turn =
    ((plan.cut.epoch ≤ front.epoch) × PullsAgain old node new turn)
    ⊎ ((front.epoch < plan.cut.epoch) × ¬ (IsKnownAt plan front) × ChangesNothing old new turn)
    ⊎ (IsKnownAt plan front × Knows quorum old plan (slice_set known node true) new turn)
HearsKnown quorum old other node front new turn = ChangesNothing old new turn

-- ---- what a quorum has accepted
-- with a quorum the plan is taken
abbrev pub Accepts : ℕ → Opening → CutPlan → List Bool → Opening → Transition → Type 0
Accepts quorum old plan accepted new turn =
    (¬ (IsQuorum quorum accepted) × (new ≡ at_stage old (stage.Proposing plan accepted)) × Stays turn [])
    ⊎ (IsQuorum quorum accepted × (new ≡ at_stage old (stage.Taking plan no_nodes)) × Stays turn (to_each old (errand.Begin plan.cut)))

-- a node has accepted a truncation, which counts where it is of the plan's epoch
abbrev pub HearsAccepted : ℕ → Opening → Stage → ℕ → ℕ → Opening → Transition → Type 0
HearsAccepted quorum old (stage.Proposing plan accepted) node epoch new turn =
    ((epoch ≢ plan.cut.epoch) × ChangesNothing old new turn)
    ⊎ ((epoch ≡ plan.cut.epoch) × Accepts quorum old plan (slice_set accepted node true) new turn)
HearsAccepted quorum old other node epoch new turn = ChangesNothing old new turn

-- ---- what a quorum has taken
-- the union has taken the truncation
pub record TakesPlan (old : State) (cut : CutData) (new : State) : Type 0 where
  pub means : TakesFact old (fact.Cut cut) new
  pub taken : Taken
  pub changed : taken ≡ Changed → StoresCut old cut new
  pub same : taken ≡ Unchanged → new ≡ old

-- the union refuses the truncation
abbrev pub RefusesPlan : State → CutData → Type 0
RefusesPlan union cut = (why : Refusal) × Refuses union (fact.Cut cut) why

-- after a pending truncation the next one is planned; after one of the engine's own the volume is open
abbrev pub BeginsEpoch : Opening → CutPlan → Opening → Transition → Type 0
BeginsEpoch old plan new turn =
    (RefusesPlan old.union plan.cut × EndsAlone old new turn Damaged)
    ⊎ ((union : State) × TakesPlan old.union plan.cut union
    × (((plan.is_pending ≡ true) × Plans old union new turn)
    ⊎ ((plan.is_pending ≡ false) × OpensVolume old.session union plan.cut turn × (new ≡ old))))

-- with a quorum in the plan's epoch the union takes the plan too
abbrev pub ReachesEpoch : ℕ → Opening → CutPlan → List Bool → Opening → Transition → Type 0
ReachesEpoch quorum old plan reported new turn =
    (¬ (IsQuorum quorum reported) × (new ≡ at_stage old (stage.Taking plan reported)) × Stays turn [])
    ⊎ (IsQuorum quorum reported × BeginsEpoch old plan new turn)

abbrev pub HearsReported : ℕ → Opening → Stage → ℕ → Front → Opening → Transition → Type 0
HearsReported quorum old (stage.Taking plan reported) node front new turn =
    ((front.epoch < plan.cut.epoch) × ChangesNothing old new turn)
    ⊎ ((plan.cut.epoch ≤ front.epoch) × ReachesEpoch quorum old plan (slice_set reported node true) new turn)
HearsReported quorum old other node front new turn = ChangesNothing old new turn

-- ---- replies
-- a front counts in two stages
abbrev pub HearsFront : ℕ → Opening → Stage → ℕ → Front → Opening → Transition → Type 0
HearsFront quorum old (stage.Taking plan reported) node front new turn = HearsReported quorum old (stage.Taking plan reported) node front new turn
HearsFront quorum old other node front new turn = HearsKnown quorum old other node front new turn

-- a reply to what was asked under the generation: one that does not belong to the stage changes nothing
abbrev pub HearsHeaded : ℕ → Opening → ℕ → SegmentReply → Opening → Transition → Type 0
HearsHeaded quorum old node (segment.Delta delta) new turn = HearsDelta old old.stage node delta new turn
HearsHeaded quorum old node (segment.Summary summary) new turn = HearsSummary old old.stage node summary new turn
HearsHeaded quorum old node (segment.Front front) new turn = HearsFront quorum old old.stage node front new turn
HearsHeaded quorum old node told new turn = ChangesNothing old new turn

-- what a stage after the pulling asks of a node
abbrev pub asks_in_stage : ℕ → Stage → ℕ → Option ℕ → List Action
asks_in_stage generation (stage.Pulling left) node birth = []
asks_in_stage generation (stage.Spreading plan known) node birth = asks_at generation errand.Ask node birth
asks_in_stage generation (stage.Proposing plan accepted) node birth = asks_at generation (errand.Propose plan.cut) node birth
asks_in_stage generation (stage.Taking plan reported) node birth = asks_at generation (errand.Begin plan.cut) node birth

-- a node that is fenced or admitted late is asked what the others were; it is none of the quorum
abbrev pub HearsLate : Opening → ℕ → ℕ → ℕ → Opening → Transition → Type 0
HearsLate old node generation birth new turn =
    (¬ (IsLate old.session node generation) × ChangesNothing old new turn)
    ⊎ (IsLate old.session node generation
    × (new ≡ opened_with old (with_birth old.session node birth) old.union old.fresh old.stage)
    × Stays turn (asks_in_stage generation old.stage node (birth_at (with_birth old.session node birth).births node)))

-- a node of the quorum that is fresh before all have answered what they have leaves no quorum
abbrev pub HearsLost : ℕ → Opening → Stage → ℕ → Opening → Transition → Type 0
HearsLost quorum old (stage.Pulling left) node new turn =
    ((is_marked old.session.quorum node ≡ true) × ((have : ℕ) × EndsAlone old new turn (NoQuorum have quorum)))
    ⊎ ((is_marked old.session.quorum node ≡ false) × ChangesNothing old new turn)
HearsLost quorum old other node new turn = ChangesNothing old new turn

-- A reply under another generation, or of another birth than was fenced or admitted, changes nothing.
abbrev pub HearsOpening : ℕ → Opening → ℕ → Reply → Opening → Transition → Type 0
HearsOpening quorum old node (reply.Headed generation birth told) new turn =
    (IsOwn old.session node generation birth × HearsHeaded quorum old node told new turn)
    ⊎ (¬ (IsOwn old.session node generation birth) × ChangesNothing old new turn)
HearsOpening quorum old node (reply.Accepted generation birth epoch) new turn =
    (IsOwn old.session node generation birth × HearsAccepted quorum old old.stage node epoch new turn)
    ⊎ (¬ (IsOwn old.session node generation birth) × ChangesNothing old new turn)
HearsOpening quorum old node (reply.Fenced generation birth accepted) new turn = HearsLate old node generation birth new turn
HearsOpening quorum old node (reply.Admitted generation birth) new turn = HearsLate old node generation birth new turn
HearsOpening quorum old node (reply.Stale generation) new turn =
    ((old.session.generation < generation) × EndsAlone old new turn (Fenced generation))
    ⊎ ((generation ≤ old.session.generation) × ChangesNothing old new turn)
HearsOpening quorum old node (reply.Fresh birth) new turn = HearsLost quorum old old.stage node new turn
HearsOpening quorum old node other new turn = ChangesNothing old new turn

-- ---- a broken connection
-- a node is asked again what it has not answered in this stage; one of which no birth is known, to be fenced
abbrev pub asks_again : Opening → Stage → ℕ → Option ℕ → List Action
asks_again o s node None = query_to (Fence o.session.generation) node
asks_again o (stage.Pulling left) node (Some birth) =
    if is_marked left node then asks_at o.session.generation (errand.Pull (asked_with o)) node (Some birth) else []
asks_again o other node (Some birth) = asks_in_stage o.session.generation other node (Some birth)

abbrev pub retries_opening : Opening → Stage → ℕ → List Action
retries_opening o s node = asks_again o s node (birth_at o.session.births node)
