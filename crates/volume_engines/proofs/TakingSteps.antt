-- What a step of an opening leaves, as far as a truncation is taken or the volume is then open.
use Rattle.std.proofs.Common.{◌≡◌, ℕ, ⊎_elim, List, [], Bool, true, false, Option, Some, None, refl, sym, subst}
use Rattle.std.specs.Prelude.{slice_set}
use Rattle.messages.specs.Summaries.{SummaryData}
use Rattle.messages.specs.Deltas.{DeltaData}
use Rattle.segment_theorems.specs.State.{State}
use Rattle.segment_core.specs.declared.answers.Front.{Front}
use Rattle.replica.specs.declared.replies.Reply.{Reply as SegmentReply}
use Rattle.replica.specs.declared.replies.Reply.TheVariants as told
use Rattle.guard.specs.declared.replies.Reply.{Reply}
use Rattle.guard.specs.declared.replies.Reply.TheVariants as reply
use Rattle.volume.specs.declared.actions.Action.{Action}
use Rattle.volume.specs.declared.actions.Fault.{Fault}
use Rattle.volume.specs.declared.actions.Fault.TheVariants.{Fenced, NoQuorum, Damaged}
use Rattle.volume.specs.declared.phases.Opening.{Opening}
use Rattle.volume.specs.declared.phases.Phase.{Phase}
use Rattle.volume.specs.declared.phases.Phase.TheVariants as phase
use Rattle.volume.specs.declared.phases.Stage.{Stage}
use Rattle.volume.specs.declared.phases.Stage.TheVariants as stage
use Rattle.volume.specs.declared.phases.Writing.{Writing}
use Rattle.volume.specs.declared.plans.CutPlan.{CutPlan}
use Rattle.volume.specs.declared.turns.Transition.{Transition}
use Rattle.volume.specs.declared.turns.Transition.TheVariants as turn
use Rattle.volume.specs.Opening.{asking_with, AsksWith, opened_with, at_stage, with_union, EndsAlone, ChangesNothing, IsQuorum, Plans, GoesOnPulling, HearsDelta, HearsSummary, PullsAgain, ProposesPlan, Knows, HearsAccepted, TakesPlan, BeginsEpoch, HearsFront, HearsHeaded, HearsLate, HearsLost, HearsOpening, retries_opening}
use Rattle.volume.specs.Resuming.{BeginsWriting, OpensVolume}
use Rattle.volume.specs.Sessions.{with_birth}
use Rattle.volume.specs.Sets.{no_nodes, no_births}
use Rattle.volume.specs.Turning.{Stays, StopsWith}

-- the plan has it, where one is taken
abbrev pub TakingHas : (CutPlan → Type 0) → Stage → Type 0
TakingHas P (stage.Taking plan reported) = P plan
TakingHas P other = Unit {0}

abbrev pub PhaseHas : (CutPlan → Type 0) → (Writing → Type 0) → Phase → Type 0
PhaseHas P W (phase.Opening o) = TakingHas P o.stage
PhaseHas P W (phase.Open w) = W w
PhaseHas P W other = Unit {0}

abbrev pub TurnHas : (CutPlan → Type 0) → (Writing → Type 0) → Phase → Transition → Type 0
TurnHas P W left (turn.Stay asked) = PhaseHas P W left
TurnHas P W left (turn.Enter next asked) = PhaseHas P W next
TurnHas P W left (turn.End asked) = Unit {0}

-- the reply with which a quorum has accepted the plan
abbrev pub Agrees : (CutPlan → Type 0) → ℕ → Opening → ℕ → Reply → Type 0
Agrees P quorum old node (reply.Accepted generation birth epoch) =
    (plan : CutPlan) (accepted : List Bool) → old.stage ≡ stage.Proposing plan accepted → epoch ≡ plan.cut.epoch
    → IsQuorum quorum (slice_set accepted node true) → P plan
Agrees P quorum old node other = Unit {0}

module _ (P : CutPlan → Type 0) (W : Writing → Type 0) (quorum node : ℕ) (old : Opening) (has : TakingHas P old.stage)
    (opens : (plan : CutPlan) (union : State) (w : Writing) → P plan → plan.is_pending ≡ false → TakesPlan old.union plan.cut union
    → BeginsWriting old.session union plan.cut w → W w) where
  abbrev Left : Opening → Transition → Type 0
  Left new t = TurnHas P W (phase.Opening new) t

  stays : (new : Opening) (t : Transition) (asked : List Action) → Stays t asked → TakingHas P new.stage → Left new t
  stays new (turn.Stay actions) asked says is = is
  stays new (turn.Enter next actions) asked says is = absurd says
  stays new (turn.End actions) asked says is = tt

  stops : (new : Opening) (t : Transition) (f : Fault) → StopsWith t f → Left new t
  stops new (turn.Stay actions) f says = absurd says
  stops new (turn.Enter next actions) f says = absurd says
  stops new (turn.End actions) f says = tt

  goes_to : (new o : Opening) (t : Transition) (asked : List Action) → new ≡ o → Stays t asked → TakingHas P o.stage → Left new t
  goes_to new o t asked same says is = stays new t asked says (subst (λ (x : Opening). TakingHas P x.stage) (sym same) is)

  idle : (new : Opening) (t : Transition) → ChangesNothing old new t → Left new t
  idle new t says = goes_to new old t [] says.1 says.0 has

  ends : (new : Opening) (t : Transition) (f : Fault) → EndsAlone old new t f → Left new t
  ends new t f says = stops new t f says.0

  -- ---- pulling
  plans : (u : State) (new : Opening) (t : Transition) → Plans old u new t → Left new t
  plans u new t says = ⊎_elim
      (λ plan. goes_to new (with_union old u (stage.Spreading plan.0 no_nodes)) t _ plan.2 plan.3 tt)
      (λ fault. ends new t fault.0 fault.2)
      says

  asks_with : (u : State) (left : List Bool) (asked : Option SummaryData) (new : Opening) (t : Transition) → AsksWith old left u asked new t → Left new t
  asks_with u left None new t says = absurd says
  asks_with u left (Some asked) new t says = goes_to new (asking_with old u asked (stage.Pulling left)) t _ says.1 says.2 tt

  goes_on_pulling : (u : State) (left : List Bool) (new : Opening) (t : Transition) → GoesOnPulling old u left new t → Left new t
  goes_on_pulling u left new t says = ⊎_elim
      (λ first. asks_with u left new.asked new t first.2)
      (λ rest. ⊎_elim
      (λ more. goes_to new (with_union old u (stage.Pulling left)) t [] more.2 more.3 tt)
      (λ all. plans u new t all.1)
      rest)
      says

  hears_delta : (st : Stage) (delta : DeltaData) (new : Opening) (t : Transition) → HearsDelta old st node delta new t → Left new t
  hears_delta (stage.Pulling left) delta new t says = ⊎_elim
      (λ among. ⊎_elim
      (λ damaged. ends new t Damaged damaged.1)
      (λ grown. goes_on_pulling grown.0 (slice_set left node false) new t grown.2)
      among.1)
      (λ no. idle new t no.1)
      says
  hears_delta (stage.Spreading plan known) delta new t says = idle new t says
  hears_delta (stage.Proposing plan accepted) delta new t says = idle new t says
  hears_delta (stage.Taking plan reported) delta new t says = idle new t says

  -- ---- spreading
  hears_summary : (st : Stage) (summary : SummaryData) (new : Opening) (t : Transition) → HearsSummary old st node summary new t → Left new t
  hears_summary (stage.Spreading plan known) summary new t says = ⊎_elim
      (λ damaged. ends new t Damaged damaged.1)
      (λ fills. goes_to new old t _ fills.2 fills.3 has)
      says
  hears_summary (stage.Pulling left) summary new t says = idle new t says
  hears_summary (stage.Proposing plan accepted) summary new t says = idle new t says
  hears_summary (stage.Taking plan reported) summary new t says = idle new t says

  proposes : (plan : CutPlan) (new : Opening) (t : Transition) → ProposesPlan old plan new t → Left new t
  proposes plan new t says = ⊎_elim
      (λ damaged. ends new t Damaged damaged.1)
      (λ sends. goes_to new (opened_with old old.session old.union no_births (stage.Proposing plan no_nodes)) t _ sends.2 sends.3 tt)
      says

  pulls_again : (new : Opening) (t : Transition) → PullsAgain old node new t → Left new t
  pulls_again new t says = ⊎_elim
      (λ no. idle new t no.1)
      (λ again. goes_to new (at_stage old (stage.Pulling (slice_set no_nodes node true))) t _ again.1 again.2 tt)
      says

  knows_more : (plan : CutPlan) (known : List Bool) (new : Opening) (t : Transition) → Knows quorum old plan known new t → Left new t
  knows_more plan known new t says = ⊎_elim
      (λ few. goes_to new (at_stage old (stage.Spreading plan known)) t [] few.1 few.2 tt)
      (λ enough. proposes plan new t enough.1)
      says

  -- ---- taking
  opens_volume : (plan : CutPlan) (u : State) (new : Opening) (t : Transition) → P plan → plan.is_pending ≡ false → TakesPlan old.union plan.cut u
      → OpensVolume old.session u plan.cut t → new ≡ old → Left new t
  opens_volume plan u new (turn.Enter (phase.Open w) actions) is own taken says same = opens plan u w is own taken says.0
  opens_volume plan u new (turn.Enter phase.Idle actions) is own taken says same = tt
  opens_volume plan u new (turn.Enter (phase.Creating c) actions) is own taken says same = tt
  opens_volume plan u new (turn.Enter (phase.Fencing f) actions) is own taken says same = tt
  opens_volume plan u new (turn.Enter (phase.Opening o) actions) is own taken says same = absurd says.0
  opens_volume plan u new (turn.Stay actions) is own taken says same = subst (λ (x : Opening). TakingHas P x.stage) (sym same) has
  opens_volume plan u new (turn.End actions) is own taken says same = tt

  begins_epoch : (plan : CutPlan) (new : Opening) (t : Transition) → P plan → BeginsEpoch old plan new t → Left new t
  begins_epoch plan new t is says = ⊎_elim
      (λ damaged. ends new t Damaged damaged.1)
      (λ taken. ⊎_elim
      (λ pending. plans taken.0 new t pending.1)
      (λ own. opens_volume plan taken.0 new t is own.0 taken.1 own.1 own.2)
      taken.2)
      says

  hears_front : (st : Stage) (front : Front) (new : Opening) (t : Transition) → TakingHas P st → HearsFront quorum old st node front new t → Left new t
  hears_front (stage.Spreading plan known) front new t is says = ⊎_elim
      (λ later. pulls_again new t later.1)
      (λ rest. ⊎_elim
      (λ no. idle new t no.2)
      (λ yes. knows_more plan (slice_set known node true) new t yes.1)
      rest)
      says
  hears_front (stage.Taking plan reported) front new t is says = ⊎_elim
      (λ no. idle new t no.1)
      (λ yes. ⊎_elim
      (λ few. goes_to new (at_stage old (stage.Taking plan (slice_set reported node true))) t [] few.1 few.2 is)
      (λ enough. begins_epoch plan new t is enough.1)
      yes.1)
      says
  hears_front (stage.Pulling left) front new t is says = idle new t says
  hears_front (stage.Proposing plan accepted) front new t is says = idle new t says

  hears_headed : (shown : SegmentReply) (new : Opening) (t : Transition) → HearsHeaded quorum old node shown new t → Left new t
  hears_headed (told.Delta delta) new t says = hears_delta old.stage delta new t says
  hears_headed (told.Summary summary) new t says = hears_summary old.stage summary new t says
  hears_headed (told.Front front) new t says = hears_front old.stage front new t has says
  hears_headed other new t says = idle new t says

  -- ---- acceptances
  hears_accepted : (st : Stage) (epoch : ℕ) (new : Opening) (t : Transition)
      → ((plan : CutPlan) (accepted : List Bool) → st ≡ stage.Proposing plan accepted → epoch ≡ plan.cut.epoch
      → IsQuorum quorum (slice_set accepted node true) → P plan)
      → HearsAccepted quorum old st node epoch new t → Left new t
  hears_accepted (stage.Proposing plan accepted) epoch new t agrees says = ⊎_elim
      (λ no. idle new t no.1)
      (λ yes. ⊎_elim
      (λ few. goes_to new (at_stage old (stage.Proposing plan (slice_set accepted node true))) t [] few.1 few.2 tt)
      (λ enough. goes_to new (at_stage old (stage.Taking plan no_nodes)) t _ enough.1 enough.2 (agrees plan accepted refl yes.0 enough.0))
      yes.1)
      says
  hears_accepted (stage.Pulling left) epoch new t agrees says = idle new t says
  hears_accepted (stage.Spreading plan known) epoch new t agrees says = idle new t says
  hears_accepted (stage.Taking plan reported) epoch new t agrees says = idle new t says

  -- ---- nodes that come late, or are lost
  hears_late : (generation birth : ℕ) (new : Opening) (t : Transition) → HearsLate old node generation birth new t → Left new t
  hears_late generation birth new t says = ⊎_elim
      (λ no. idle new t no.1)
      (λ late. goes_to new (opened_with old (with_birth old.session node birth) old.union old.fresh old.stage) t _ late.1 late.2 has)
      says

  hears_lost : (st : Stage) (new : Opening) (t : Transition) → HearsLost quorum old st node new t → Left new t
  hears_lost (stage.Pulling left) new t says = ⊎_elim
      (λ lost. ends new t (NoQuorum lost.1.0 quorum) lost.1.1)
      (λ no. idle new t no.1)
      says
  hears_lost (stage.Spreading plan known) new t says = idle new t says
  hears_lost (stage.Proposing plan accepted) new t says = idle new t says
  hears_lost (stage.Taking plan reported) new t says = idle new t says

  -- ---- replies
  pub hears_taking : (shown : Reply) (new : Opening) (t : Transition) → Agrees P quorum old node shown → HearsOpening quorum old node shown new t → Left new t
  hears_taking (reply.Headed generation birth shown) new t agrees says = ⊎_elim
      (λ own. hears_headed shown new t own.1)
      (λ no. idle new t no.1)
      says
  hears_taking (reply.Accepted generation birth epoch) new t agrees says = ⊎_elim
      (λ own. hears_accepted old.stage epoch new t agrees own.1)
      (λ no. idle new t no.1)
      says
  hears_taking (reply.Fenced generation birth accepted) new t agrees says = hears_late generation birth new t says
  hears_taking (reply.Admitted generation birth) new t agrees says = hears_late generation birth new t says
  hears_taking (reply.Stale generation) new t agrees says = ⊎_elim
      (λ up. ends new t (Fenced generation) up.1)
      (λ no. idle new t no.1)
      says
  hears_taking (reply.Fresh birth) new t agrees says = hears_lost old.stage new t says
  hears_taking other new t agrees says = idle new t says

  pub retries_taking : (t : Transition) → Stays t (retries_opening old old.stage node) → Left old t
  retries_taking t says = goes_to old old t (retries_opening old old.stage node) refl says has
