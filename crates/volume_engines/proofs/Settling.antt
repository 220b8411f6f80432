-- What a step of an opening leaves of its union and of its plan, and which truncations it proposes.
use Rattle.std.proofs.Common.{◌≡◌, ℕ, zero, suc, ◌+◌, ⊎_elim, List, [], ◌∷◌, ◌++◌, Bool, true, false, map, Option, Some, None, refl, sym, subst}
use Rattle.std.specs.Prelude.{slice_set, if◌then◌else◌}
use Rattle.std.specs.List.{AllByRecursion}
use Rattle.redo_core.specs.Data.{CutData}
use Rattle.messages.specs.Summaries.{SummaryData}
use Rattle.messages.specs.Deltas.{DeltaData}
use Rattle.segment_theorems.specs.State.{State}
use Rattle.segment_core.specs.declared.answers.Front.{Front}
use Rattle.replica.specs.declared.replies.Reply.{Reply as SegmentReply}
use Rattle.replica.specs.declared.replies.Reply.TheVariants as told
use Rattle.guard.specs.declared.requests.Request.{Request}
use Rattle.guard.specs.declared.requests.Request.TheVariants as request
use Rattle.guard.specs.declared.replies.Reply.{Reply}
use Rattle.guard.specs.declared.replies.Reply.TheVariants as reply
use Rattle.volume.specs.declared.actions.Action.{Action}
use Rattle.volume.specs.declared.actions.Action.TheVariants.{Ask}
use Rattle.volume.specs.declared.actions.Fault.{Fault}
use Rattle.volume.specs.declared.actions.Fault.TheVariants.{Fenced, NoQuorum, Damaged}
use Rattle.volume.specs.declared.errands.Errand.{Errand}
use Rattle.volume.specs.declared.errands.Errand.TheVariants as errand
use Rattle.volume.specs.declared.errands.Query.{Query}
use Rattle.volume.specs.declared.errands.Query.TheVariants as query
use Rattle.volume.specs.declared.fencing.Fencing.{Fencing}
use Rattle.volume.specs.declared.phases.Opening.{Opening}
use Rattle.volume.specs.declared.phases.Phase.{Phase}
use Rattle.volume.specs.declared.phases.Phase.TheVariants as phase
use Rattle.volume.specs.declared.phases.Stage.{Stage}
use Rattle.volume.specs.declared.phases.Stage.TheVariants as stage
use Rattle.volume.specs.declared.phases.Writing.{Writing}
use Rattle.volume.specs.declared.plans.CutPlan.{CutPlan}
use Rattle.volume.specs.declared.turns.Transition.{Transition}
use Rattle.volume.specs.declared.turns.Transition.TheVariants as turn
use Rattle.volume.specs.Asking.{requests_of, asks_of, asks_from, asks_at, queries_from, query_to}
use Rattle.volume.specs.Fencing.{PullsQuorum, GoesOn, HearsFencing, RetriesFencing}
use Rattle.volume.specs.Opening.{opened_with, asking_with, asked_with, AsksWith, at_stage, with_union, to_each, EndsAlone, ChangesNothing, IsQuorum, Plans, GoesOnPulling, HearsDelta, HearsSummary, PullsAgain, joining_of, AdmitsFresh, ProposesPlan, Knows, HearsAccepted, TakesPlan, BeginsEpoch, HearsFront, HearsHeaded, asks_in_stage, HearsLate, HearsLost, HearsOpening, asks_again, retries_opening}
use Rattle.volume.specs.Resuming.{BeginsWriting, OpensVolume}
use Rattle.volume.specs.Sessions.{with_birth}
use Rattle.volume.specs.Settings.{SettingsData}
use Rattle.volume.specs.Sets.{birth_at, is_marked, no_nodes, no_births}
use Rattle.volume.specs.Turning.{Stays, Enters, StopsWith}
use Rattle.volume_engines.specs.Proposed.{IsPlanOf}
use Rattle.volume_engines.proofs.Sending.{all_append}

-- ---- truncations that are proposed
-- the request proposes one of these truncations, or none
abbrev pub RequestHas : (CutData → Type 0) → Request → Type 0
RequestHas P (request.Propose generation birth cut) = P cut
RequestHas P other = Unit {0}

abbrev pub ProposalHas : (CutData → Type 0) → Action → Type 0
ProposalHas P (Ask node asked) = RequestHas P asked
ProposalHas P other = Unit {0}

abbrev pub AllHave : (CutData → Type 0) → List Action → Type 0
AllHave P actions = AllByRecursion (ProposalHas P) actions

abbrev ErrandHas : (CutData → Type 0) → Errand → Type 0
ErrandHas P (errand.Propose cut) = P cut
ErrandHas P other = Unit {0}

-- the truncation of the plan that is proposed at the stage
abbrev pub CutOf : Stage → CutData → Type 0
CutOf st cut = (plan : CutPlan) × IsPlanOf st plan × (plan.cut ≡ cut)

module _ (P : CutData → Type 0) where
  requests_have : (generation birth : ℕ) (er : Errand) → ErrandHas P er → AllByRecursion (RequestHas P) (requests_of generation birth er)
  requests_have generation birth (errand.Pull summary) has = (tt, tt)
  requests_have generation birth errand.Ask has = (tt, tt)
  requests_have generation birth (errand.Push summary delta) has = (tt, (tt, tt))
  requests_have generation birth (errand.Propose cut) has = (has, tt)
  requests_have generation birth (errand.Begin cut) has = (tt, (tt, tt))
  requests_have generation birth (errand.Store redo) has = (tt, tt)
  requests_have generation birth (errand.Close redo) has = (tt, (tt, tt))
  requests_have generation birth (errand.Raise advance) has = (tt, tt)
  requests_have generation birth errand.Report has = (tt, tt)
  requests_have generation birth errand.Found has = (tt, tt)
  requests_have generation birth (errand.Join summary delta joining) has = (tt, (tt, tt))

  asks_have : (node : ℕ) (rs : List Request) → AllByRecursion (RequestHas P) rs → AllHave P (map (λ r. Ask node r) rs)
  asks_have node [] all = tt
  asks_have node (r ∷ rs) all = (all.0, asks_have node rs all.1)

  each_has : (node generation : ℕ) (births : List (Option ℕ)) (er : Errand) → ErrandHas P er → AllHave P (asks_from generation er node births)
  each_has node generation [] er has = tt
  each_has node generation (None ∷ births) er has = each_has (node + 1) generation births er has
  each_has node generation (Some birth ∷ births) er has =
      all_append (ProposalHas P) (asks_of node generation birth er) (asks_from generation er (node + 1) births)
      (asks_have node (requests_of generation birth er) (requests_have generation birth er has)) (each_has (node + 1) generation births er has)

  one_has : (node generation : ℕ) (b : Option ℕ) (er : Errand) → ErrandHas P er → AllHave P (asks_at generation er node b)
  one_has node generation None er has = tt
  one_has node generation (Some birth) er has = asks_have node (requests_of generation birth er) (requests_have generation birth er has)

  query_has : (node : ℕ) (q : Query) → AllHave P (query_to q node)
  query_has node query.Status = (tt, tt)
  query_has node (query.Fence generation) = (tt, tt)

  if_have : (b : Bool) (actions : List Action) → AllHave P actions → AllHave P (if b then actions else [])
  if_have true actions all = all
  if_have false actions all = tt

  pub queries_have : (node count : ℕ) (q : Query) → AllHave P (queries_from q node count)
  queries_have node zero q = tt
  queries_have node (suc count) query.Status = (tt, queries_have (node + 1) count query.Status)
  queries_have node (suc count) (query.Fence generation) = (tt, queries_have (node + 1) count (query.Fence generation))

  -- where none is proposed
  request_none : (asked : Request) → RequestHas (λ c. ⊥) asked → RequestHas P asked
  request_none (request.Propose generation birth cut) none = absurd none
  request_none other none = tt

  proposal_none : (a : Action) → ProposalHas (λ c. ⊥) a → ProposalHas P a
  proposal_none (Ask node asked) none = request_none asked none
  proposal_none other none = tt

  pub none_proposed : (actions : List Action) → AllHave (λ c. ⊥) actions → AllHave P actions
  none_proposed [] none = tt
  none_proposed (a ∷ actions) none = (proposal_none a none.0, none_proposed actions none.1)

stage_asks : (st : Stage) (generation node : ℕ) (b : Option ℕ) → AllHave (CutOf st) (asks_in_stage generation st node b)
stage_asks (stage.Pulling left) generation node b = tt
stage_asks (stage.Spreading plan known) generation node b = one_has (CutOf (stage.Spreading plan known)) node generation b errand.Ask tt
stage_asks (stage.Proposing plan accepted) generation node b =
    one_has (CutOf (stage.Proposing plan accepted)) node generation b (errand.Propose plan.cut) (plan, refl, refl)
stage_asks (stage.Taking plan reported) generation node b =
    one_has (CutOf (stage.Taking plan reported)) node generation b (errand.Begin plan.cut) tt

again_asks : (o : Opening) (st : Stage) (node : ℕ) (b : Option ℕ) → AllHave (CutOf st) (asks_again o st node b)
again_asks o (stage.Pulling left) node None = query_has (CutOf (stage.Pulling left)) node (query.Fence o.session.generation)
again_asks o (stage.Spreading plan known) node None = query_has (CutOf (stage.Spreading plan known)) node (query.Fence o.session.generation)
again_asks o (stage.Proposing plan accepted) node None = query_has (CutOf (stage.Proposing plan accepted)) node (query.Fence o.session.generation)
again_asks o (stage.Taking plan reported) node None = query_has (CutOf (stage.Taking plan reported)) node (query.Fence o.session.generation)
again_asks o (stage.Pulling left) node (Some birth) =
    if_have (CutOf (stage.Pulling left)) (is_marked left node) (asks_at o.session.generation (errand.Pull (asked_with o)) node (Some birth))
    (one_has (CutOf (stage.Pulling left)) node o.session.generation (Some birth) (errand.Pull (asked_with o)) tt)
again_asks o (stage.Spreading plan known) node (Some birth) = stage_asks (stage.Spreading plan known) o.session.generation node (Some birth)
again_asks o (stage.Proposing plan accepted) node (Some birth) = stage_asks (stage.Proposing plan accepted) o.session.generation node (Some birth)
again_asks o (stage.Taking plan reported) node (Some birth) = stage_asks (stage.Taking plan reported) o.session.generation node (Some birth)

-- ---- stages
-- the opening proposes no truncation of its own yet
abbrev pub Seeks : Stage → Type 0
Seeks (stage.Pulling left) = Unit {0}
Seeks (stage.Spreading plan known) = Unit {0}
Seeks (stage.Proposing plan accepted) = ⊥
Seeks (stage.Taking plan reported) = plan.is_pending ≡ true

-- its union may still grow, or is made known
abbrev pub IsGathering : Stage → Type 0
IsGathering (stage.Pulling left) = Unit {0}
IsGathering (stage.Spreading plan known) = Unit {0}
IsGathering other = ⊥

-- what holds of the epoch for which a node has accepted a truncation
abbrev pub VoteOf : (ℕ → Type 0) → Reply → Type 0
VoteOf V (reply.Accepted generation birth epoch) = V epoch
VoteOf V other = Unit {0}

-- what holds in a phase, and of the truncations that are proposed when it begins or goes on
abbrev pub LeavesIn : Type 0 → (State → Stage → Type 0) → (Writing → Type 0) → Phase → List Action → Type 0
LeavesIn F H W (phase.Fencing f) asked = F × AllHave (λ c. ⊥) asked
LeavesIn F H W (phase.Opening o) asked = H o.union o.stage × AllHave (CutOf o.stage) asked
LeavesIn F H W (phase.Open w) asked = W w
LeavesIn F H W other asked = Unit {0}

abbrev pub LeavesAfter : Type 0 → (State → Stage → Type 0) → (Writing → Type 0) → Phase → Transition → Type 0
LeavesAfter F H W left (turn.Stay asked) = LeavesIn F H W left asked.items
LeavesAfter F H W left (turn.Enter next asked) = LeavesIn F H W next asked.items
LeavesAfter F H W left (turn.End asked) = Unit {0}

-- ---- an opening
module _ (F : Type 0) (H : State → Stage → Type 0) (W : Writing → Type 0) (V : ℕ → Type 0) (quorum node : ℕ) (old : Opening) (has : H old.union old.stage)
    (seeks : (u : State) (st : Stage) → Seeks old.stage → IsGathering st → H u st)
    (begins : (plan : CutPlan) (known : List Bool) → old.stage ≡ stage.Spreading plan known → H old.union (stage.Proposing plan no_nodes))
    (counts : (plan : CutPlan) (accepted : List Bool) → old.stage ≡ stage.Proposing plan accepted → V plan.cut.epoch
    → H old.union (stage.Proposing plan (slice_set accepted node true)))
    (agrees : (plan : CutPlan) (accepted : List Bool) → old.stage ≡ stage.Proposing plan accepted → V plan.cut.epoch
    → IsQuorum quorum (slice_set accepted node true) → H old.union (stage.Taking plan no_nodes))
    (reports : (plan : CutPlan) (reported more : List Bool) → old.stage ≡ stage.Taking plan reported → H old.union (stage.Taking plan more))
    (opens : (plan : CutPlan) (reported : List Bool) (u : State) (w : Writing) → old.stage ≡ stage.Taking plan reported → plan.is_pending ≡ false
    → TakesPlan old.union plan.cut u → BeginsWriting old.session u plan.cut w → W w) where
  abbrev Left : Opening → Transition → Type 0
  Left new t = LeavesAfter F H W (phase.Opening new) t

  stays : (new : Opening) (t : Transition) (asked : List Action) → Stays t asked → H new.union new.stage → AllHave (CutOf new.stage) asked → Left new t
  stays new (turn.Stay actions) asked says is all = (is, subst (AllHave (CutOf new.stage)) (sym says) all)
  stays new (turn.Enter next actions) asked says is all = absurd says
  stays new (turn.End actions) asked says is all = absurd says

  stops : (new : Opening) (t : Transition) (f : Fault) → StopsWith t f → Left new t
  stops new (turn.Stay actions) f says = absurd says
  stops new (turn.Enter next actions) f says = absurd says
  stops new (turn.End actions) f says = tt

  goes_to : (new o : Opening) (t : Transition) (asked : List Action) → new ≡ o → Stays t asked → H o.union o.stage → AllHave (CutOf o.stage) asked → Left new t
  goes_to new o t asked same says is all = subst (λ (x : Opening). Left x t) (sym same) (stays o t asked says is all)

  idle : (new : Opening) (t : Transition) → ChangesNothing old new t → Left new t
  idle new t says = goes_to new old t [] says.1 says.0 has tt

  ends : (new : Opening) (t : Transition) (f : Fault) → EndsAlone old new t f → Left new t
  ends new t f says = stops new t f says.0

  -- ---- pulling
  plans : (u : State) (new : Opening) (t : Transition) → Seeks old.stage → Plans old u new t → Left new t
  plans u new t seek says = ⊎_elim
      (λ plan.
      let next : Stage = stage.Spreading plan.0 no_nodes in
      goes_to new (with_union old u next) t (to_each old errand.Ask) plan.2 plan.3 (seeks u next seek tt)
      (each_has (CutOf next) 0 old.session.generation old.session.births errand.Ask tt))
      (λ fault. ends new t fault.0 fault.2)
      says

  asks_with : (u : State) (left : List Bool) (asked : Option SummaryData) (new : Opening) (t : Transition) → Seeks old.stage → AsksWith old left u asked new t
      → Left new t
  asks_with u left None new t seek says = absurd says
  asks_with u left (Some asked) new t seek says =
      let next : Stage = stage.Pulling left in
      goes_to new (asking_with old u asked next) t (to_each old (errand.Pull asked)) says.1 says.2 (seeks u next seek tt)
      (each_has (CutOf next) 0 old.session.generation old.session.births (errand.Pull asked) tt)

  goes_on_pulling : (u : State) (left : List Bool) (new : Opening) (t : Transition) → Seeks old.stage → GoesOnPulling old u left new t → Left new t
  goes_on_pulling u left new t seek says = ⊎_elim
      (λ first. asks_with u left new.asked new t seek first.2)
      (λ rest. ⊎_elim
      (λ more. goes_to new (with_union old u (stage.Pulling left)) t [] more.2 more.3 (seeks u (stage.Pulling left) seek tt) tt)
      (λ all. plans u new t seek all.1)
      rest)
      says

  hears_delta : (st : Stage) (delta : DeltaData) (new : Opening) (t : Transition) → old.stage ≡ st → HearsDelta old st node delta new t → Left new t
  hears_delta (stage.Pulling left) delta new t at says = ⊎_elim
      (λ among. ⊎_elim
      (λ damaged. ends new t Damaged damaged.1)
      (λ grown. goes_on_pulling grown.0 (slice_set left node false) new t (subst Seeks (sym at) tt) grown.2)
      among.1)
      (λ no. idle new t no.1)
      says
  hears_delta (stage.Spreading plan known) delta new t at says = idle new t says
  hears_delta (stage.Proposing plan accepted) delta new t at says = idle new t says
  hears_delta (stage.Taking plan reported) delta new t at says = idle new t says

  -- ---- spreading
  hears_summary : (st : Stage) (summary : SummaryData) (new : Opening) (t : Transition) → HearsSummary old st node summary new t → Left new t
  hears_summary (stage.Spreading plan known) summary new t says = ⊎_elim
      (λ damaged. ends new t Damaged damaged.1)
      (λ fills.
      goes_to new old t (asks_at old.session.generation (errand.Push summary fills.0) node (birth_at old.session.births node)) fills.2 fills.3 has
      (one_has (CutOf old.stage) node old.session.generation (birth_at old.session.births node) (errand.Push summary fills.0) tt))
      says
  hears_summary (stage.Pulling left) summary new t says = idle new t says
  hears_summary (stage.Proposing plan accepted) summary new t says = idle new t says
  hears_summary (stage.Taking plan reported) summary new t says = idle new t says

  joins_have : (P : CutData → Type 0) (joins : List Action) → AdmitsFresh old joins → AllHave P joins
  joins_have P joins says = ⊎_elim
      (λ none. subst (AllHave P) (sym none.1) tt)
      (λ some. subst (AllHave P) (sym some.4)
      (each_has P 0 old.session.generation old.fresh (errand.Join old.summary some.0 (joining_of old some.1)) tt))
      says

  proposes : (plan : CutPlan) (known : List Bool) (new : Opening) (t : Transition) → old.stage ≡ stage.Spreading plan known → ProposesPlan old plan new t → Left new t
  proposes plan known new t at says = ⊎_elim
      (λ damaged. ends new t Damaged damaged.1)
      (λ sends.
      let next : Stage = stage.Proposing plan no_nodes in
      goes_to new (opened_with old old.session old.union no_births next) t (sends.0 ++ to_each old (errand.Propose plan.cut)) sends.2 sends.3
      (begins plan known at)
      (all_append (ProposalHas (CutOf next)) sends.0 (to_each old (errand.Propose plan.cut)) (joins_have (CutOf next) sends.0 sends.1)
      (each_has (CutOf next) 0 old.session.generation old.session.births (errand.Propose plan.cut) (plan, refl, refl))))
      says

  pulls_again : (new : Opening) (t : Transition) → Seeks old.stage → PullsAgain old node new t → Left new t
  pulls_again new t seek says = ⊎_elim
      (λ no. idle new t no.1)
      (λ again.
      let next : Stage = stage.Pulling (slice_set no_nodes node true) in
      goes_to new (at_stage old next) t (asks_at old.session.generation (errand.Pull (asked_with old)) node (birth_at old.session.births node)) again.1 again.2
      (seeks old.union next seek tt)
      (one_has (CutOf next) node old.session.generation (birth_at old.session.births node) (errand.Pull (asked_with old)) tt))
      says

  knows_more : (plan : CutPlan) (known more : List Bool) (new : Opening) (t : Transition) → old.stage ≡ stage.Spreading plan known → Knows quorum old plan more new t
      → Left new t
  knows_more plan known more new t at says = ⊎_elim
      (λ few.
      goes_to new (at_stage old (stage.Spreading plan more)) t [] few.1 few.2 (seeks old.union (stage.Spreading plan more) (subst Seeks (sym at) tt) tt) tt)
      (λ enough. proposes plan known new t at enough.1)
      says

  -- ---- taking
  opens_volume : (plan : CutPlan) (reported : List Bool) (u : State) (new : Opening) (t : Transition) → old.stage ≡ stage.Taking plan reported → plan.is_pending ≡ false
      → TakesPlan old.union plan.cut u → OpensVolume old.session u plan.cut t → Left new t
  opens_volume plan reported u new (turn.Enter (phase.Open w) actions) at own taken says = opens plan reported u w at own taken says.0
  opens_volume plan reported u new (turn.Enter phase.Idle actions) at own taken says = absurd says.0
  opens_volume plan reported u new (turn.Enter (phase.Creating c) actions) at own taken says = absurd says.0
  opens_volume plan reported u new (turn.Enter (phase.Fencing f) actions) at own taken says = absurd says.0
  opens_volume plan reported u new (turn.Enter (phase.Opening o) actions) at own taken says = absurd says.0
  opens_volume plan reported u new (turn.Stay actions) at own taken says = absurd says.0
  opens_volume plan reported u new (turn.End actions) at own taken says = tt

  begins_epoch : (plan : CutPlan) (reported : List Bool) (new : Opening) (t : Transition) → old.stage ≡ stage.Taking plan reported → BeginsEpoch old plan new t → Left new t
  begins_epoch plan reported new t at says = ⊎_elim
      (λ damaged. ends new t Damaged damaged.1)
      (λ taken. ⊎_elim
      (λ pending. plans taken.0 new t (subst Seeks (sym at) pending.0) pending.1)
      (λ own. opens_volume plan reported taken.0 new t at own.0 taken.1 own.1)
      taken.2)
      says

  hears_front : (st : Stage) (front : Front) (new : Opening) (t : Transition) → old.stage ≡ st → HearsFront quorum old st node front new t → Left new t
  hears_front (stage.Spreading plan known) front new t at says = ⊎_elim
      (λ later. pulls_again new t (subst Seeks (sym at) tt) later.1)
      (λ rest. ⊎_elim
      (λ no. idle new t no.2)
      (λ yes. knows_more plan known (slice_set known node true) new t at yes.1)
      rest)
      says
  hears_front (stage.Taking plan reported) front new t at says = ⊎_elim
      (λ no. idle new t no.1)
      (λ yes. ⊎_elim
      (λ few.
      goes_to new (at_stage old (stage.Taking plan (slice_set reported node true))) t [] few.1 few.2 (reports plan reported (slice_set reported node true) at) tt)
      (λ enough. begins_epoch plan reported new t at enough.1)
      yes.1)
      says
  hears_front (stage.Pulling left) front new t at says = idle new t says
  hears_front (stage.Proposing plan accepted) front new t at says = idle new t says

  hears_headed : (shown : SegmentReply) (new : Opening) (t : Transition) → HearsHeaded quorum old node shown new t → Left new t
  hears_headed (told.Delta delta) new t says = hears_delta old.stage delta new t refl says
  hears_headed (told.Summary summary) new t says = hears_summary old.stage summary new t says
  hears_headed (told.Front front) new t says = hears_front old.stage front new t refl says
  hears_headed other new t says = idle new t says

  -- ---- acceptances
  hears_accepted : (st : Stage) (epoch : ℕ) (new : Opening) (t : Transition) → old.stage ≡ st → V epoch → HearsAccepted quorum old st node epoch new t → Left new t
  hears_accepted (stage.Proposing plan accepted) epoch new t at vote says = ⊎_elim
      (λ no. idle new t no.1)
      (λ yes.
      let own : V plan.cut.epoch = subst V yes.0 vote in
      ⊎_elim
      (λ few. goes_to new (at_stage old (stage.Proposing plan (slice_set accepted node true))) t [] few.1 few.2 (counts plan accepted at own) tt)
      (λ enough.
      let next : Stage = stage.Taking plan no_nodes in
      goes_to new (at_stage old next) t (to_each old (errand.Begin plan.cut)) enough.1 enough.2 (agrees plan accepted at own enough.0)
      (each_has (CutOf next) 0 old.session.generation old.session.births (errand.Begin plan.cut) tt))
      yes.1)
      says
  hears_accepted (stage.Pulling left) epoch new t at vote says = idle new t says
  hears_accepted (stage.Spreading plan known) epoch new t at vote says = idle new t says
  hears_accepted (stage.Taking plan reported) epoch new t at vote says = idle new t says

  -- ---- nodes that come late, or are lost
  hears_late : (generation birth : ℕ) (new : Opening) (t : Transition) → HearsLate old node generation birth new t → Left new t
  hears_late generation birth new t says = ⊎_elim
      (λ no. idle new t no.1)
      (λ late.
      goes_to new (opened_with old (with_birth old.session node birth) old.union old.fresh old.stage) t
      (asks_in_stage generation old.stage node (birth_at (with_birth old.session node birth).births node)) late.1 late.2 has
      (stage_asks old.stage generation node (birth_at (with_birth old.session node birth).births node)))
      says

  hears_lost : (st : Stage) (new : Opening) (t : Transition) → HearsLost quorum old st node new t → Left new t
  hears_lost (stage.Pulling left) new t says = ⊎_elim
      (λ lost. ends new t (NoQuorum lost.1.0 quorum) lost.1.1)
      (λ no. idle new t no.1)
      says
  hears_lost (stage.Spreading plan known) new t says = idle new t says
  hears_lost (stage.Proposing plan accepted) new t says = idle new t says
  hears_lost (stage.Taking plan reported) new t says = idle new t says

  -- ---- replies
  pub hears_settling : (shown : Reply) (new : Opening) (t : Transition) → VoteOf V shown → HearsOpening quorum old node shown new t → Left new t
  hears_settling (reply.Headed generation birth shown) new t vote says = ⊎_elim
      (λ own. hears_headed shown new t own.1)
      (λ no. idle new t no.1)
      says
  hears_settling (reply.Accepted generation birth epoch) new t vote says = ⊎_elim
      (λ own. hears_accepted old.stage epoch new t refl vote own.1)
      (λ no. idle new t no.1)
      says
  hears_settling (reply.Fenced generation birth accepted) new t vote says = hears_late generation birth new t says
  hears_settling (reply.Admitted generation birth) new t vote says = hears_late generation birth new t says
  hears_settling (reply.Stale generation) new t vote says = ⊎_elim
      (λ up. ends new t (Fenced generation) up.1)
      (λ no. idle new t no.1)
      says
  hears_settling (reply.Fresh birth) new t vote says = hears_lost old.stage new t says
  hears_settling other new t vote says = idle new t says

  pub retries_settling : (t : Transition) → Stays t (retries_opening old old.stage node) → Left old t
  retries_settling t says =
      goes_to old old t (retries_opening old old.stage node) refl says has (again_asks old old.stage node (birth_at old.session.births node))

-- ---- before a quorum is fenced
module _ (F : Type 0) (H : State → Stage → Type 0) (W : Writing → Type 0) (f : Fencing) (none : F) (first : (u : State) (left : List Bool) → H u (stage.Pulling left)) where
  abbrev Fences : Transition → Type 0
  Fences t = LeavesAfter F H W (phase.Fencing f) t

  stays_fencing : (t : Transition) → Stays t [] → Fences t
  stays_fencing (turn.Stay actions) says = (none, subst (AllHave (λ c. ⊥)) (sym says) tt)
  stays_fencing (turn.Enter next actions) says = absurd says
  stays_fencing (turn.End actions) says = absurd says

  enters : (new : Fencing) (t : Transition) (asked : List Action) → Enters t (phase.Fencing new) asked → AllHave (λ c. ⊥) asked → Fences t
  enters new (turn.Stay actions) asked says all = absurd says
  enters new (turn.Enter p actions) asked says all =
      subst (λ (q : Phase). LeavesIn F H W q actions.items) (sym says.0) (none, subst (AllHave (λ c. ⊥)) (sym says.1) all)
  enters new (turn.End actions) asked says all = absurd says

  stops_fencing : (t : Transition) (fault : Fault) → StopsWith t fault → Fences t
  stops_fencing (turn.Stay actions) fault says = absurd says
  stops_fencing (turn.Enter p actions) fault says = absurd says
  stops_fencing (turn.End actions) fault says = tt

  goes_on : (s : SettingsData) (new : Fencing) (t : Transition) (asked : List Action) → AllHave (λ c. ⊥) asked → GoesOn s new t asked → Fences t
  goes_on s new t asked all says = ⊎_elim
      (λ more. enters new t asked more.1 all)
      (λ few. stops_fencing t _ few.1)
      says

  pulls : (s : SettingsData) (new : Fencing) (node birth : ℕ) (t : Transition) → PullsQuorum s new node birth t → Fences t
  pulls s new node birth (turn.Enter (phase.Opening o) actions) says = (
    subst (λ (st : Stage). H o.union st) (sym says.0.stage) (first o.union _),
    subst (AllHave (CutOf o.stage)) (sym says.1) (one_has (CutOf o.stage) node new.generation (Some birth) (errand.Pull o.summary) tt),
  )
  pulls s new node birth (turn.Enter phase.Idle actions) says = absurd says
  pulls s new node birth (turn.Enter (phase.Creating c) actions) says = absurd says
  pulls s new node birth (turn.Enter (phase.Fencing g) actions) says = absurd says
  pulls s new node birth (turn.Enter (phase.Open w) actions) says = absurd says
  pulls s new node birth (turn.Stay actions) says = absurd says
  pulls s new node birth (turn.End actions) says = absurd says

  pub fences_settling : (s : SettingsData) (node : ℕ) (shown : Reply) (t : Transition) → HearsFencing s f node shown t → Fences t
  fences_settling s node (reply.Fenced generation birth accepted) t says = ⊎_elim
      (λ own. ⊎_elim
      (λ few. enters _ t [] few.1 tt)
      (λ enough. pulls s _ node birth t enough.1)
      own.1)
      (λ no. stays_fencing t no.1)
      says
  fences_settling s node (reply.Fresh birth) t says = goes_on s _ t [] tt says
  fences_settling s node (reply.Stale generation) t says = ⊎_elim
      (λ up. stops_fencing t _ up.1)
      (λ rest. ⊎_elim
      (λ own. goes_on s _ t [] tt own.2)
      (λ no. stays_fencing t no.1)
      rest)
      says
  fences_settling s node other t says = stays_fencing t says

  pub refences_settling : (s : SettingsData) (node : ℕ) (t : Transition) → RetriesFencing s f node t → Fences t
  refences_settling s node t says = ⊎_elim
      (λ no. stays_fencing t no.1)
      (λ yes. goes_on s _ t (query_to (query.Fence f.generation) node) (query_has (λ c. ⊥) node (query.Fence f.generation)) yes.1)
      says
