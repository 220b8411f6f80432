-- Once an opening proposes a truncation of its own, its union stays as it is, and a quorum accepts the truncation after that.
use Rattle.std.proofs.Common.{◌≡◌, ℕ, zero, suc, ◌<◌, ◌≤◌, ◌⊎◌, ⊎_elim, inl, inr, List, [], Bool, true, false, refl, sym, ◌∙◌, subst, ap, arith}
use Rattle.std.specs.Prelude.{slice_set}
use Rattle.std.specs.List.{Contains}
use Rattle.redo_core.specs.Data.{CutData}
use Rattle.redo_core.proofs.Members.{each}
use Rattle.segment_theorems.specs.State.{State}
use Rattle.replica.specs.Parts.{ReplicaData}
use Rattle.guard.specs.declared.requests.Request.{Request}
use Rattle.guard.specs.declared.requests.Request.TheVariants as request
use Rattle.guard.specs.declared.replies.Reply.{Reply}
use Rattle.guard.specs.declared.replies.Reply.TheVariants as reply
use Rattle.volume.specs.declared.actions.Action.{Action}
use Rattle.volume.specs.declared.actions.Action.TheVariants.{Ask}
use Rattle.volume.specs.declared.actions.Fault.{Fault}
use Rattle.volume.specs.declared.errands.Query.TheVariants.{Fence}
use Rattle.volume.specs.declared.events.Event.{Event}
use Rattle.volume.specs.declared.events.Event.TheVariants as event
use Rattle.volume.specs.declared.fencing.Fencing.{Fencing}
use Rattle.volume.specs.declared.phases.Opening.{Opening}
use Rattle.volume.specs.declared.phases.Phase.{Phase}
use Rattle.volume.specs.declared.phases.Phase.TheVariants as phase
use Rattle.volume.specs.declared.phases.Stage.{Stage}
use Rattle.volume.specs.declared.phases.Stage.TheVariants as stage
use Rattle.volume.specs.declared.phases.Writing.{Writing}
use Rattle.volume.specs.declared.plans.CutPlan.{CutPlan}
use Rattle.volume.specs.declared.turns.Transition.{Transition}
use Rattle.volume.specs.declared.turns.Transition.TheVariants as turn
use Rattle.volume.specs.Data.{VolumeData}
use Rattle.volume.specs.Opening.{IsQuorum}
use Rattle.volume.specs.Planning.{IsOwnCut}
use Rattle.volume.specs.Settings.{SettingsData}
use Rattle.volume.specs.Sets.{is_marked, count_marked, no_nodes}
use Rattle.volume.specs.Stepping.{IsVolumeStep, OnlyRefuses, StartsOpening, CallsOpen, Hears, Retries, Turns}
use Rattle.volume.specs.Writing.{WritesPage, EndsTransaction, RaisesPoint}
use Rattle.volume_theorems.specs.Nodes.{Content}
use Rattle.volume_theorems.specs.Runs.{VolumeRun, MakesMove, Many}
use Rattle.volume_theorems.specs.Runs.Move.{Accepts}
use Rattle.volume_logs.specs.Histories.{History}
use Rattle.volume_engines.specs.Lives.{Life, Guards, WasGiven, MayHappen}
use Rattle.volume_engines.specs.Proposals.{IsLifeIn}
use Rattle.volume_engines.proofs.Tables.{none_marked, marked_more}
use Rattle.volume_engines.proofs.Replies.{IsProposed, accepted_says}
use Rattle.volume_engines.proofs.Named.{own_or_pending}
use Rattle.volume_engines.proofs.Knowing.{KnowsUnion, KnowsStage, KnowsOpening, KnowsPhase}
use Rattle.volume_engines.proofs.Proposing.{many_marked}
use Rattle.volume_engines.proofs.Later.{union_later}
use Rattle.volume_engines.proofs.OpenSteps.{IsRefusedOpening}
use Rattle.volume_engines.proofs.Reporting.{IsShut, knows, quorum_is, refused, the_step}
use Rattle.volume_engines.proofs.Emitting.{OpenOrIdle, on_step}
use Rattle.volume_engines.proofs.Settling.{ProposalHas, AllHave, CutOf, Seeks, IsGathering, VoteOf, LeavesIn, LeavesAfter, queries_have, none_proposed, hears_settling, retries_settling, fences_settling, refences_settling}

-- ---- one step of a machine that is not open
-- nothing happens but that a call may be refused
abbrev IsNothing : VolumeData → List Action → VolumeData → Type 0
IsNothing old actions new = (new ≡ old) × AllHave (λ c. ⊥) actions

refusal : (old new : VolumeData) (f : Fault) (actions : List Action) → OnlyRefuses old f actions new → IsNothing old actions new
refusal old new f actions says = (says.1, subst (AllHave (λ c. ⊥)) (sym says.0) (tt, tt))

silence : (old new : VolumeData) (actions : List Action) → actions ≡ [] → new ≡ old → IsNothing old actions new
silence old new actions none same = (same, subst (AllHave (λ c. ⊥)) (sym none) tt)

call_refused : (does : Writing → List Action → Writing → Type 0) (old new : VolumeData) (actions : List Action) (p : Phase) → IsShut p
    → CallsOpen does old p actions new → IsNothing old actions new
call_refused does old new actions phase.Idle shut says = refusal old new _ actions says
call_refused does old new actions (phase.Creating c) shut says = refusal old new _ actions says
call_refused does old new actions (phase.Fencing f) shut says = refusal old new _ actions says
call_refused does old new actions (phase.Opening o) shut says = refusal old new _ actions says
call_refused does old new actions (phase.Open w) shut says = absurd shut

pub turned_leaves : (F : Type 0) (H : State → Stage → Type 0) (W : Writing → Type 0) (old new : VolumeData) (left : Phase) (t : Transition) (actions : List Action)
    → LeavesAfter F H W left t → Turns old left t actions new → LeavesIn F H W new.phase actions
turned_leaves F H W old new left (turn.Stay asked) actions is says =
    subst (λ (v : VolumeData). LeavesIn F H W v.phase actions) (sym says.1) (subst (λ (xs : List Action). LeavesIn F H W left xs) (sym says.0) is)
turned_leaves F H W old new left (turn.Enter next asked) actions is says =
    subst (λ (v : VolumeData). LeavesIn F H W v.phase actions) (sym says.1) (subst (λ (xs : List Action). LeavesIn F H W next xs) (sym says.0) is)
turned_leaves F H W old new left (turn.End asked) actions is says = subst (λ (v : VolumeData). LeavesIn F H W v.phase actions) (sym says.1) tt

abbrev pub MayHear : (ℕ → Reply → Type 0) → Event → Type 0
MayHear Heard (event.Answered node shown) = Heard node shown
MayHear Heard other = Unit {0}

module _ (F : Type 0) (H : State → Stage → Type 0) (W : Writing → Type 0) (Heard : ℕ → Reply → Type 0) (old new : VolumeData) (actions : List Action) (p : Phase)
    (at : old.phase ≡ p) (shut : IsShut p) (same : AllHave (λ c. ⊥) actions → LeavesIn F H W p actions)
    (hears : (node : ℕ) (shown : Reply) (left : Phase) (t : Transition) → node < old.settings.nodes → Heard node shown → Hears old.settings p node shown left t
    → LeavesAfter F H W left t)
    (retries : (node : ℕ) (t : Transition) → Retries old.settings p node t → LeavesAfter F H W p t) where
  stays_in : IsNothing old actions new → LeavesIn F H W new.phase actions
  stays_in none = subst (λ (q : Phase). LeavesIn F H W q actions) (sym (ap (λ (v : VolumeData). v.phase) none.0 ∙ at)) (same none.1)

  pub shut_step : (happens : Event) → IsRefusedOpening old happens → MayHear Heard happens → IsVolumeStep old happens actions new → LeavesIn F H W new.phase actions
  shut_step event.Create late may says = ⊎_elim
      (λ no. stays_in (refusal old new _ actions no.1))
      (λ begun. let none : old.generation ≡ 0 = begun.0 in absurd (omega arith))
      says
  shut_step (event.Open generation) late may says = ⊎_elim
      (λ no. stays_in (refusal old new _ actions no.1))
      (λ up. let more : old.generation < generation = up.0 in absurd (omega arith))
      says
  shut_step (event.Write page init patches) late may says =
      stays_in (call_refused (λ v asked after. WritesPage v page init patches.items asked after) old new actions p shut
      (subst (λ (q : Phase). CallsOpen (λ v asked after. WritesPage v page init patches.items asked after) old q actions new) at says))
  shut_step (event.Commit header) late may says =
      stays_in (call_refused (λ v asked after. EndsTransaction v header.items asked after) old new actions p shut
      (subst (λ (q : Phase). CallsOpen (λ v asked after. EndsTransaction v header.items asked after) old q actions new) at says))
  shut_step (event.Advance reader point) late may says =
      stays_in (call_refused (λ v asked after. RaisesPoint v reader point asked after) old new actions p shut
      (subst (λ (q : Phase). CallsOpen (λ v asked after. RaisesPoint v reader point asked after) old q actions new) at says))
  shut_step (event.Answered node shown) late may says = ⊎_elim
      (λ out. stays_in (silence old new actions out.1 out.2))
      (λ inside.
      turned_leaves F H W old new inside.1.0 inside.1.1 actions
      (hears node shown inside.1.0 inside.1.1 inside.0 may (subst (λ (q : Phase). Hears old.settings q node shown inside.1.0 inside.1.1) at inside.1.2)) inside.1.3)
      says
  shut_step (event.Failed node) late may says = ⊎_elim
      (λ out. stays_in (silence old new actions out.1 out.2))
      (λ inside.
      turned_leaves F H W old new p inside.1.0 actions
      (retries node inside.1.0 (subst (λ (q : Phase). Retries old.settings q node inside.1.0) at inside.1.1))
      (subst (λ (q : Phase). Turns old q inside.1.0 actions new) at inside.1.2))
      says

-- a phase that no opening leads to
on_leaves : (F : Type 0) (H : State → Stage → Type 0) (p : Phase) (actions : List Action) → OpenOrIdle p → LeavesIn F H (λ w. Unit {0}) p actions
on_leaves F H (phase.Open w) actions on = tt
on_leaves F H phase.Idle actions on = tt
on_leaves F H (phase.Creating c) actions on = absurd on
on_leaves F H (phase.Fencing f) actions on = absurd on
on_leaves F H (phase.Opening o) actions on = absurd on

-- ---- a life
module _ (run : VolumeRun) (h : History) (stop : ℕ) (content : ReplicaData → Content) (guards : Guards) (e : ℕ) (life : Life) (count : ℕ)
    (is : IsLifeIn run h stop content guards e life count) where
  -- what the steps before step n propose was pending
  abbrev pub NoneOwn : ℕ → Type 0
  NoneOwn n =
      (m node generation birth : ℕ) (cut : CutData) → m < n → Contains (life.actions m) (Ask node (request.Propose generation birth cut))
      → cut.epoch < (run.engines e).opens

  -- Since step `first` the opening proposes the plan of its own; until then it has proposed pending ones alone. The union means facts that the
  -- log had by then.
  pub record IsSettled (n first : ℕ) (u : State) (plan : CutPlan) : Type 0 where
    pub own : plan.is_pending ≡ false
    pub upto : first ≤ n
    pub none : NoneOwn first
    pub union : KnowsUnion run h e (life.moments first) u []
    pub cut : IsOwnCut u plan.cut

  -- node i has accepted the plan since then
  abbrev pub HasVoted : ℕ → ℕ → CutPlan → ℕ → Type 0
  HasVoted n first plan i = (s : ℕ) × (life.moments first ≤ s) × (s < life.moments n) × MakesMove run s i (Accepts e plan.cut.epoch)

  abbrev pub HaveVoted : ℕ → ℕ → CutPlan → List Bool → Type 0
  HaveVoted n first plan accepted = (i : ℕ) → is_marked accepted i ≡ true → (i < run.roster) × HasVoted n first plan i

  abbrev pub IsUnsettled : ℕ → CutPlan → Type 0
  IsUnsettled n plan = (plan.is_pending ≡ true) × NoneOwn n

  abbrev pub SettledStage : ℕ → State → Stage → Type 0
  SettledStage n u (stage.Proposing plan accepted) = IsUnsettled n plan ⊎ ((first : ℕ) × IsSettled n first u plan × HaveVoted n first plan accepted)
  SettledStage n u (stage.Taking plan reported) = IsUnsettled n plan ⊎ ((first : ℕ) × IsSettled n first u plan × Many run (HasVoted n first plan))
  SettledStage n u other = NoneOwn n

  abbrev After : ℕ → Phase → List Action → Type 0
  After n p asked = LeavesIn (NoneOwn n) (SettledStage n) (λ w. Unit {0}) p asked

  -- the actions of one step more
  none_more : (P : CutData → Type 0) (n : ℕ) → NoneOwn n → AllHave P (life.actions n) → ((c : CutData) → P c → c.epoch < (run.engines e).opens) → NoneOwn (suc n)
  none_more P n none all low m node generation birth cut within inside = ⊎_elim
      (λ (now : m ≡ n).
      low cut (each (ProposalHas P) (life.actions n) (Ask node (request.Propose generation birth cut)) all
      (subst (λ (x : ℕ). Contains (life.actions x) (Ask node (request.Propose generation birth cut))) now inside)))
      (λ (early : m < n). none m node generation birth cut early inside)
      (let way : (m ≡ n) ⊎ (m < n) = grind (arith, within) in way)

  pub rise : (m n : ℕ) → m ≤ n → n < count → life.moments m ≤ life.moments n
  rise m zero order step = let same : 0 ≡ m = omega arith in subst (λ (x : ℕ). life.moments x ≤ life.moments 0) same (omega arith)
  rise m (suc n) order step = ⊎_elim
      (λ (same : m ≡ suc n). subst (λ (x : ℕ). life.moments x ≤ life.moments (suc n)) (sym same) (omega arith))
      (λ (early : m ≤ n).
      let before : life.moments m ≤ life.moments n = rise m n early (omega arith) in
      let next : life.moments n ≤ life.moments (suc n) = is.lives.in_time n step in
      omega arith)
      (let way : (m ≡ suc n) ⊎ (m ≤ n) = grind (arith, order) in way)

  heard_by : (n : ℕ) (happens : Event) → MayHappen run guards e life n happens → MayHear (λ node shown. WasGiven run guards e life n node shown) happens
  heard_by n (event.Answered node shown) may = may
  heard_by n other may = tt

  module _ (n : ℕ) (step : suc n < count) where
    voted_later : (first : ℕ) (plan : CutPlan) (i : ℕ) → HasVoted n first plan i → HasVoted (suc n) first plan i
    voted_later first plan i x =
        let before : x.0 < life.moments n = x.2 in let next : life.moments n ≤ life.moments (suc n) = is.lives.in_time n step in (x.0, x.1, omega arith, x.3)

    settled_later : (first : ℕ) (u : State) (plan : CutPlan) → IsSettled n first u plan → IsSettled (suc n) first u plan
    settled_later first u plan s =
        record { own = s.own; upto = (let low : first ≤ n = s.upto in omega arith); none = s.none; union = s.union; cut = s.cut }

    -- ---- an opening
    module _ (o : Opening) (at : (life.states (suc n)).phase ≡ phase.Opening o) (after : After n (phase.Opening o) (life.actions n)) where
      opening : KnowsOpening run h guards e life (life.moments n) o
      opening = subst (λ (p : Phase). KnowsPhase run h guards e life n p) at (knows run h stop content guards e life count is n step).knows

      abbrev Own : Type 0
      Own = NoneOwn (suc n)

      -- where nothing is proposed now
      none_now : (st : Stage) → o.stage ≡ st → NoneOwn n → ((c : CutData) → CutOf st c → c.epoch < (run.engines e).opens) → Own
      none_now st same none low = none_more (CutOf st) n none (subst (λ (x : Stage). AllHave (CutOf x) (life.actions n)) same after.1) low

      pending_now : (plan : CutPlan) (accepted : List Bool) → o.stage ≡ stage.Proposing plan accepted → IsUnsettled n plan → Own
      pending_now plan accepted same x =
          let stage_at : KnowsStage run h e (life.moments n) o.union o.pair (stage.Proposing plan accepted) =
          subst (KnowsStage run h e (life.moments n) o.union o.pair) same opening.at in
          none_now (stage.Proposing plan accepted) same x.1 (λ c of.
          let below : plan.cut.epoch < (run.engines e).opens = stage_at.3.pending x.0 in
          let one : plan.cut.epoch ≡ of.0.cut.epoch = ap (λ (q : CutPlan). q.cut.epoch) of.1 in
          let two : of.0.cut.epoch ≡ c.epoch = ap (λ (d : CutData). d.epoch) of.2 in
          omega arith)

      taking_now : (plan : CutPlan) (reported : List Bool) → o.stage ≡ stage.Taking plan reported → IsUnsettled n plan → Own
      taking_now plan reported same x = none_now (stage.Taking plan reported) same x.1 (λ c of. absurd of.1)

      -- the same stage, one step later
      has_later : (st : Stage) → o.stage ≡ st → SettledStage n o.union st → SettledStage (suc n) o.union st
      has_later (stage.Pulling left) same none = none_now (stage.Pulling left) same none (λ c of. absurd of.1)
      has_later (stage.Spreading plan known) same none = none_now (stage.Spreading plan known) same none (λ c of. absurd of.1)
      has_later (stage.Proposing plan accepted) same has = ⊎_elim
          (λ x. inl (x.0, pending_now plan accepted same x))
          (λ x. inr (x.0, settled_later x.0 o.union plan x.1, λ i marked. let y = x.2 i marked in (y.0, voted_later x.0 plan i y.1)))
          has
      has_later (stage.Taking plan reported) same has = ⊎_elim
          (λ x. inl (x.0, taking_now plan reported same x))
          (λ x. inr (x.0, settled_later x.0 o.union plan x.1, (x.2.0, x.2.1, λ i among. voted_later x.0 plan i (x.2.2 i among))))
          has

      -- while it seeks, it has proposed none of its own
      none_seeking : (st : Stage) → o.stage ≡ st → Seeks st → SettledStage n o.union st → Own
      none_seeking (stage.Pulling left) same seek none = has_later (stage.Pulling left) same none
      none_seeking (stage.Spreading plan known) same seek none = has_later (stage.Spreading plan known) same none
      none_seeking (stage.Proposing plan accepted) same seek has = absurd seek
      none_seeking (stage.Taking plan reported) same seek has = ⊎_elim
          (λ x. taking_now plan reported same x)
          (λ x. let no : true ≡ false = sym seek ∙ x.1.own in absurd (cc))
          has

      gathers : (u : State) (st : Stage) → Own → IsGathering st → SettledStage (suc n) u st
      gathers u (stage.Pulling left) none on = none
      gathers u (stage.Spreading plan known) none on = none
      gathers u (stage.Proposing plan accepted) none on = absurd on
      gathers u (stage.Taking plan reported) none on = absurd on

      begins : (plan : CutPlan) (known : List Bool) → o.stage ≡ stage.Spreading plan known → SettledStage (suc n) o.union (stage.Proposing plan no_nodes)
      begins plan known same =
          let none : Own = has_later (stage.Spreading plan known) same (subst (SettledStage n o.union) same after.0) in
          let stage_at : KnowsStage run h e (life.moments n) o.union o.pair (stage.Spreading plan known) =
          subst (KnowsStage run h e (life.moments n) o.union o.pair) same opening.at in
          ⊎_elim
          (λ (own : plan.is_pending ≡ false). inr (
            suc n,
            record {
              own = own;
              upto = omega arith;
              none = none;
              union = union_later run h stop e (life.moments n) (life.moments (suc n)) is.emitted (is.lives.in_time n step) (is.upto (suc n) step) o.union [] stage_at.0;
              cut = ⊎_elim
                  (λ pending. let no : true ≡ false = sym pending.0 ∙ own in absurd (cc))
                  (λ its. its.2)
                  stage_at.1;
            },
            λ i marked. absurd (none_marked i marked),
          ))
          (λ (pending : plan.is_pending ≡ true). inl (pending, none))
          (own_or_pending plan.is_pending)

      -- ---- votes
      module _ (node : ℕ) (within : node < run.roster) where
        -- the node has accepted a truncation of the epoch that a step of the life had proposed by then
        record IsVote (epoch : ℕ) : Type 0 where
          step_of : ℕ
          early : step_of < suc n
          generation : ℕ
          birth : ℕ
          cut : CutData
          same : cut.epoch ≡ epoch
          asks : Contains (life.actions step_of) (Ask node (request.Propose generation birth cut))
          moment : ℕ
          after_it : life.moments step_of ≤ moment
          before : moment < life.moments (suc n)
          moved : MakesMove run moment node (Accepts e epoch)

        vote_of : (shown : Reply) → WasGiven run guards e life (suc n) node shown → VoteOf IsVote shown
        vote_of (reply.Accepted generation birth epoch) given =
            let p : ℕ = life.given (suc n) in
            let x : IsProposed given.asked epoch = accepted_says (guards p node) given.asked generation birth epoch (guards (suc p) node) given.replies in
            record {
              step_of = given.sent.0;
              early = given.sent.1;
              generation = x.generation;
              birth = x.birth;
              cut = x.cut;
              same = x.same;
              asks = subst (λ (r : Request). Contains (life.actions given.sent.0) (Ask node r)) x.asked_is given.sent.3;
              moment = p;
              after_it = given.sent.2;
              before = given.before;
              moved = given.moved;
            }
        vote_of other given = tt

        -- it came after the plan was proposed
        counted : (first : ℕ) (plan : CutPlan) (accepted : List Bool) → o.stage ≡ stage.Proposing plan accepted → IsSettled n first o.union plan
            → HaveVoted n first plan accepted → IsVote plan.cut.epoch → HaveVoted (suc n) first plan (slice_set accepted node true)
        counted first plan accepted same s votes v i marked =
            let stage_at : KnowsStage run h e (life.moments n) o.union o.pair (stage.Proposing plan accepted) =
            subst (KnowsStage run h e (life.moments n) o.union o.pair) same opening.at in
            let opens : (run.engines e).opens ≡ plan.cut.epoch = stage_at.3.own s.own in
            let m : ℕ = v.step_of in
            let epoch : v.cut.epoch ≡ plan.cut.epoch = v.same in
            let bound : m < suc n = v.early in
            let late : first ≤ m = ⊎_elim
            (λ (low : m < first). let under : v.cut.epoch < (run.engines e).opens = s.none m node v.generation v.birth v.cut low v.asks in absurd (omega arith))
            (λ (high : first ≤ m). high)
            (let way : (m < first) ⊎ (first ≤ m) = grind arith in way) in
            let rises : life.moments first ≤ life.moments m = rise first m late (omega arith) in
            let sent : life.moments m ≤ v.moment = v.after_it in
            let mine : HasVoted (suc n) first plan node = (v.moment, omega arith, v.before, v.moved) in
            ⊎_elim
            (λ (here : i ≡ node). (
              subst (λ (j : ℕ). j < run.roster) (sym here) within,
              subst (HasVoted (suc n) first plan) (sym here) mine,
            ))
            (λ (old : is_marked accepted i ≡ true). let y = votes i old in (y.0, voted_later first plan i y.1))
            (marked_more accepted node i marked)

        counts : (plan : CutPlan) (accepted : List Bool) → o.stage ≡ stage.Proposing plan accepted → IsVote plan.cut.epoch
            → SettledStage (suc n) o.union (stage.Proposing plan (slice_set accepted node true))
        counts plan accepted same v = ⊎_elim
            (λ x. inl (x.0, pending_now plan accepted same x))
            (λ x. inr (x.0, settled_later x.0 o.union plan x.1, counted x.0 plan accepted same x.1 x.2 v))
            (let has : SettledStage n o.union (stage.Proposing plan accepted) = subst (SettledStage n o.union) same after.0 in has)

        agrees : (quorum : ℕ) → quorum ≡ run.quorum → (plan : CutPlan) (accepted : List Bool) → o.stage ≡ stage.Proposing plan accepted → IsVote plan.cut.epoch
            → IsQuorum quorum (slice_set accepted node true) → SettledStage (suc n) o.union (stage.Taking plan no_nodes)
        agrees quorum q_is plan accepted same v enough = ⊎_elim
            (λ x. inl (x.0, pending_now plan accepted same x))
            (λ x. inr (
              x.0,
              settled_later x.0 o.union plan x.1,
              many_marked run (slice_set accepted node true) (HasVoted (suc n) x.0 plan)
                  (subst (λ (m : ℕ). m ≤ count_marked (slice_set accepted node true)) q_is enough) (counted x.0 plan accepted same x.1 x.2 v),
            ))
            (let has : SettledStage n o.union (stage.Proposing plan accepted) = subst (SettledStage n o.union) same after.0 in has)

      reports : (plan : CutPlan) (reported more : List Bool) → o.stage ≡ stage.Taking plan reported → SettledStage (suc n) o.union (stage.Taking plan more)
      reports plan reported more same = has_later (stage.Taking plan reported) same (subst (SettledStage n o.union) same after.0)

      has_now : SettledStage (suc n) o.union o.stage
      has_now = has_later o.stage refl after.0

      seeks : (u : State) (st : Stage) → Seeks o.stage → IsGathering st → SettledStage (suc n) u st
      seeks u st seek on = gathers u st (none_seeking o.stage refl seek after.0) on

      abbrev Next : Phase → Transition → Type 0
      Next left t = LeavesAfter Own (SettledStage (suc n)) (λ w. Unit {0}) left t

      hears_on : (node : ℕ) (shown : Reply) (left : Phase) (t : Transition) → node < (life.states (suc n)).settings.nodes → WasGiven run guards e life (suc n) node shown
          → Hears (life.states (suc n)).settings (phase.Opening o) node shown left t → Next left t
      hears_on node shown (phase.Opening p) t inside given says =
          let nodes : (life.states (suc n)).settings.nodes ≡ run.roster = ap (λ (s : SettingsData). s.nodes) (knows run h stop content guards e life count is n step).settings ∙ is.lives.nodes in
          let within : node < run.roster = omega arith in
          hears_settling Own (SettledStage (suc n)) (λ w. Unit {0}) (IsVote node within) (life.states (suc n)).settings.quorum node o has_now seeks begins
          (counts node within) (agrees node within (life.states (suc n)).settings.quorum (quorum_is run h stop content guards e life count is n step)) reports
          (λ plan reported u w same own taken starts. tt) shown p t (vote_of node within shown given) says
      hears_on node shown phase.Idle t inside given says = absurd says
      hears_on node shown (phase.Creating c) t inside given says = absurd says
      hears_on node shown (phase.Fencing f) t inside given says = absurd says
      hears_on node shown (phase.Open w) t inside given says = absurd says

      retries_on : (node : ℕ) (t : Transition) → Retries (life.states (suc n)).settings (phase.Opening o) node t → Next (phase.Opening o) t
      retries_on node t says =
          retries_settling Own (SettledStage (suc n)) (λ w. Unit {0}) (λ k. ⊥) (life.states (suc n)).settings.quorum node o has_now seeks begins
          (λ plan accepted same v. absurd v) (λ plan accepted same v enough. absurd v) reports (λ plan reported u w same own taken starts. tt) t says

      pub opening_after : After (suc n) (life.states (suc (suc n))).phase (life.actions (suc n))
      opening_after =
          shut_step Own (SettledStage (suc n)) (λ w. Unit {0}) (λ node shown. WasGiven run guards e life (suc n) node shown)
          (life.states (suc n)) (life.states (suc (suc n))) (life.actions (suc n)) (phase.Opening o) at tt
          (λ all. (has_now, none_proposed (CutOf o.stage) (life.actions (suc n)) all)) hears_on retries_on
          (life.events (suc n)) (refused run h stop content guards e life count is n step (life.events (suc n)) (is.lives.heard n step))
          (heard_by (suc n) (life.events (suc n)) (is.lives.heard n step)) (the_step run h stop content guards e life count is n step)

    -- ---- before a quorum is fenced
    module _ (f : Fencing) (at : (life.states (suc n)).phase ≡ phase.Fencing f) (after : After n (phase.Fencing f) (life.actions n)) where
      none_fencing : NoneOwn (suc n)
      none_fencing = none_more (λ c. ⊥) n after.0 after.1 (λ c no. absurd no)

      abbrev Fences : Phase → Transition → Type 0
      Fences left t = LeavesAfter (NoneOwn (suc n)) (SettledStage (suc n)) (λ w. Unit {0}) left t

      fences_on : (node : ℕ) (shown : Reply) (left : Phase) (t : Transition) → Hears (life.states (suc n)).settings (phase.Fencing f) node shown left t → Fences left t
      fences_on node shown left t says =
          subst (λ (p : Phase). Fences p t) (sym says.1)
          (fences_settling (NoneOwn (suc n)) (SettledStage (suc n)) (λ w. Unit {0}) f none_fencing (λ u left. none_fencing)
          (life.states (suc n)).settings node shown t says.0)

      fencing_after : After (suc n) (life.states (suc (suc n))).phase (life.actions (suc n))
      fencing_after =
          shut_step (NoneOwn (suc n)) (SettledStage (suc n)) (λ w. Unit {0}) (λ node shown. WasGiven run guards e life (suc n) node shown)
          (life.states (suc n)) (life.states (suc (suc n))) (life.actions (suc n)) (phase.Fencing f) at tt
          (λ all. (none_fencing, all)) (λ node shown left t inside given says. fences_on node shown left t says)
          (λ node t says. refences_settling (NoneOwn (suc n)) (SettledStage (suc n)) (λ w. Unit {0}) f none_fencing (λ u left. none_fencing)
          (life.states (suc n)).settings node t says)
          (life.events (suc n)) (refused run h stop content guards e life count is n step (life.events (suc n)) (is.lives.heard n step))
          (heard_by (suc n) (life.events (suc n)) (is.lives.heard n step)) (the_step run h stop content guards e life count is n step)

    -- ---- any phase
    goes : (p : Phase) → (life.states (suc n)).phase ≡ p → After n p (life.actions n) → After (suc n) (life.states (suc (suc n))).phase (life.actions (suc n))
    goes (phase.Opening o) at after = opening_after o at after
    goes (phase.Fencing f) at after = fencing_after f at after
    goes (phase.Creating c) at after = absurd (subst (λ (p : Phase). KnowsPhase run h guards e life n p) at (knows run h stop content guards e life count is n step).knows)
    goes phase.Idle at after =
        on_leaves (NoneOwn (suc n)) (SettledStage (suc n)) (life.states (suc (suc n))).phase (life.actions (suc n))
        (on_step run h stop content guards e life count is n step phase.Idle at tt)
    goes (phase.Open w) at after =
        on_leaves (NoneOwn (suc n)) (SettledStage (suc n)) (life.states (suc (suc n))).phase (life.actions (suc n))
        (on_step run h stop content guards e life count is n step (phase.Open w) at tt)

  -- ---- all steps
  first_after : 0 < count → After 0 (life.states 1).phase (life.actions 0)
  first_after step =
      let starts : StartsOpening (life.states 0) life.generation (life.actions 0) (life.states 1) =
      subst (λ (ev : Event). IsVolumeStep (life.states 0) ev (life.actions 0) (life.states 1)) is.lives.opens (is.lives.steps 0 step) in
      ⊎_elim
      (λ no.
      let low : life.generation ≤ (life.states 0).generation = no.0 in
      let above : (life.states 0).generation < life.generation = is.lives.above in
      absurd (omega arith))
      (λ up.
      let silent : AllHave (λ c. ⊥) (life.actions 0) =
      subst (AllHave (λ c. ⊥)) (sym up.1) (queries_have (λ c. ⊥) 0 (life.states 0).settings.nodes (Fence life.generation)) in
      let none : NoneOwn 0 = λ m node generation birth cut within inside. absurd (omega arith) in
      subst (λ (v : VolumeData). After 0 v.phase (life.actions 0)) (sym up.2) (none, silent))
      starts

  settled_after : (n : ℕ) → n < count → After n (life.states (suc n)).phase (life.actions n)
  settled_after zero step = first_after step
  settled_after (suc n) step = goes n step (life.states (suc n)).phase refl (settled_after n (omega arith))

  -- what holds of an opening after each step
  pub settled : (n : ℕ) (o : Opening) → n < count → (life.states (suc n)).phase ≡ phase.Opening o → SettledStage n o.union o.stage
  settled n o step at = (subst (λ (p : Phase). After n p (life.actions n)) at (settled_after n step)).0
