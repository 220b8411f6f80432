-- What a machine plans comes in order: a step of an opening.
use Rattle.std.proofs.Common.{◌≡◌, ℕ, ◌+◌, ◌<◌, ◌≤◌, ◌⊎◌, ⊎_elim, inl, inr, List, [], Bool, true, false, Option, Some, None, refl, sym, ◌∙◌, subst, ap, arith}
use Rattle.std.specs.Prelude.{slice_set}
use Rattle.redo_core.specs.Data.{CutData}
use Rattle.redo_core.specs.Book.{BookData}
use Rattle.redo_core.specs.CompleteEpoch.{HasCutsTo, IsCompleteEpoch}
use Rattle.redo_core.specs.Sets.{IsPart}
use Rattle.redo_core.proofs.CompleteEpochs.{has_cuts}
use Rattle.log_theorems.proofs.Fronts.{cuts_to_part}
use Rattle.messages.specs.Summaries.{SummaryData}
use Rattle.messages.specs.Deltas.{DeltaData}
use Rattle.segment_theorems.specs.State.{State}
use Rattle.segment_theorems.specs.Joining.{JoinsBooks}
use Rattle.segment_theorems.specs.Learning.{StoresCut}
use Rattle.segment_core.specs.declared.answers.Front.{Front}
use Rattle.segment_core.specs.declared.answers.Taken.{Taken}
use Rattle.segment_core.specs.declared.answers.Taken.TheVariants.{Changed, Unchanged}
use Rattle.replica.specs.declared.replies.Reply.{Reply as SegmentReply}
use Rattle.replica.specs.declared.replies.Reply.TheVariants as told
use Rattle.guard.specs.declared.requests.AcceptedCut.{AcceptedCut}
use Rattle.guard.specs.declared.replies.Reply.{Reply}
use Rattle.guard.specs.declared.replies.Reply.TheVariants as reply
use Rattle.volume.specs.declared.actions.Action.{Action}
use Rattle.volume.specs.declared.actions.Fault.{Fault}
use Rattle.volume.specs.declared.actions.Fault.TheVariants.{Fenced, NoQuorum, Damaged}
use Rattle.volume.specs.declared.phases.Opening.{Opening}
use Rattle.volume.specs.declared.phases.Phase.{Phase}
use Rattle.volume.specs.declared.phases.Phase.TheVariants as phase
use Rattle.volume.specs.declared.phases.Stage.{Stage}
use Rattle.volume.specs.declared.phases.Stage.TheVariants as stage
use Rattle.volume.specs.declared.plans.CutPlan.{CutPlan}
use Rattle.volume.specs.declared.turns.Transition.{Transition}
use Rattle.volume.specs.declared.turns.Transition.TheVariants as turn
use Rattle.volume.specs.Opening.{asking_with, asked_with, AsksWith, opened_with, at_stage, with_union, EndsAlone, ChangesNothing, GrowsBy, Plans, GoesOnPulling, HearsDelta, HearsSummary, PullsAgain, ProposesPlan, Knows, TakesPlan, HearsAccepted, BeginsEpoch, HearsFront, HearsHeaded, HearsLate, HearsLost, HearsOpening}
use Rattle.volume.specs.Planning.{IsPending, IsPlan}
use Rattle.volume.specs.Resuming.{OpensVolume}
use Rattle.volume.specs.Sessions.{with_birth}
use Rattle.volume.specs.Sets.{no_nodes, no_births}
use Rattle.volume.specs.Turning.{Stays, Enters, StopsWith}
use Rattle.volume_engines.specs.Proposed.{IsPlanOf, IsPlanIn, IsPlanUpTo}

-- ---- epochs of a union
-- the new book has the truncations up to its complete epoch, which is not below the old one
record IsGrown (old new : BookData) : Type 0 where
  cuts : HasCutsTo new.cuts new.complete
  rises : old.complete ≤ new.complete

grown : (old new : BookData) → HasCutsTo old.cuts old.complete → IsPart old.cuts new.cuts → IsCompleteEpoch new.cuts new.complete → IsGrown old new
grown old new had inner complete = record {
  cuts = has_cuts new.cuts new.complete complete;
  rises = complete.1 old.complete (cuts_to_part old.cuts new.cuts inner old.complete had);
}

joined : (old other new : BookData) → HasCutsTo old.cuts old.complete → JoinsBooks old other new → IsGrown old new
joined old other new had joins = grown old new had (λ c inside. (joins.cuts c).1 (inl inside)) joins.complete

learnt : (old new : State) (cut : CutData) → HasCutsTo old.book.cuts old.book.complete → StoresCut old cut new → IsGrown old.book new.book
learnt old new cut had stores = grown old.book new.book had (λ c inside. (stores.book.cuts c).1 (inl inside)) stores.epoch

taken_as : (old new : State) (cut : CutData) (t : Taken) → HasCutsTo old.book.cuts old.book.complete → (t ≡ Changed → StoresCut old cut new)
    → (t ≡ Unchanged → new ≡ old) → IsGrown old.book new.book
taken_as old new cut Changed had changed same = learnt old new cut had (changed refl)
taken_as old new cut Unchanged had changed same =
    subst (λ (s : State). IsGrown old.book s.book) (sym (same refl)) (record { cuts = had; rises = omega arith })

-- ---- one plan after another
abbrev plan_of : CutData → Bool → CutPlan
plan_of cut is_pending = record { cut = cut; is_pending = is_pending }

same_plan : (p q : CutPlan) → p.cut ≡ q.cut → p.is_pending ≡ q.is_pending → p ≡ q
same_plan p q cut pending = ap (λ (c : CutData). plan_of c p.is_pending) cut ∙ ap (λ (b : Bool). plan_of q.cut b) pending

pub pending_next : (pair : Option AcceptedCut) (epoch : ℕ) (cut : CutData) → IsPending pair epoch cut → cut.epoch ≡ epoch + 1
pending_next None epoch cut is = absurd is
pending_next (Some pair) epoch cut is = is.1

one_pending : (pair : Option AcceptedCut) (epoch : ℕ) (c d : CutData) → IsPending pair epoch c → IsPending pair epoch d → c ≡ d
one_pending None epoch c d one two = absurd one
one_pending (Some pair) epoch c d one two = sym one.0 ∙ two.0

pub plan_next : (u : State) (pair : Option AcceptedCut) (plan : CutPlan) → IsPlan u pair plan → plan.cut.epoch ≡ u.book.complete + 1
plan_next u pair plan is = ⊎_elim
    (λ pending. pending_next pair u.book.complete plan.cut pending.1)
    (λ own.
    let above : plan.cut.epoch ≡ own.2.front.epoch + 1 = own.2.epoch in
    let front : own.2.front.epoch ≡ u.book.complete = own.2.own.epoch in
    omega arith)
    is

pending_plan : (u : State) (pair : Option AcceptedCut) (plan : CutPlan) → IsPlan u pair plan → plan.is_pending ≡ true → IsPending pair u.book.complete plan.cut
pending_plan u pair plan is pending = ⊎_elim
    (λ yes. yes.1)
    (λ own. let no : true ≡ false = sym pending ∙ own.0 in absurd (cc))
    is

-- the plan was pending, and is of an epoch that the union has, or still pending
abbrev pub IsBehind : State → Option AcceptedCut → CutPlan → Type 0
IsBehind u pair p = (p.is_pending ≡ true) × ((p.cut.epoch ≤ u.book.complete) ⊎ IsPending pair u.book.complete p.cut)

behind_later : (old new : State) (pair : Option AcceptedCut) (p : CutPlan) → old.book.complete ≤ new.book.complete → IsBehind old pair p → IsBehind new pair p
behind_later old new pair p rises is = (
  is.0,
  ⊎_elim
      (λ (past : p.cut.epoch ≤ old.book.complete). inl (let far : p.cut.epoch ≤ new.book.complete = omega arith in far))
      (λ (next : IsPending pair old.book.complete p.cut). ⊎_elim
      (λ (same : old.book.complete ≡ new.book.complete). inr (subst (λ (k : ℕ). IsPending pair k p.cut) same next))
      (λ (more : old.book.complete < new.book.complete).
      let at : p.cut.epoch ≡ old.book.complete + 1 = pending_next pair old.book.complete p.cut next in
      inl (let far : p.cut.epoch ≤ new.book.complete = omega arith in far))
      (let way : (old.book.complete ≡ new.book.complete) ⊎ (old.book.complete < new.book.complete) = grind (arith, rises) in way))
      is.1,
)

follows : (u : State) (pair : Option AcceptedCut) (p plan : CutPlan) → IsBehind u pair p → IsPlan u pair plan → IsPlanUpTo p plan
follows u pair p plan behind is =
    let next : plan.cut.epoch ≡ u.book.complete + 1 = plan_next u pair plan is in
    ⊎_elim
    (λ (past : p.cut.epoch ≤ u.book.complete). inr (behind.0, let before : p.cut.epoch < plan.cut.epoch = omega arith in before))
    (λ (waits : IsPending pair u.book.complete p.cut). ⊎_elim
    (λ both. inl (same_plan p plan (one_pending pair u.book.complete p.cut plan.cut waits both.1) (behind.0 ∙ sym both.0)))
    (λ own. absurd (own.1 p.cut waits))
    is)
    behind.1

-- ---- what holds in each phase, by what was before
-- the plans that earlier steps have proposed, and whether one of them has gathered a quorum
pub record Before : Type 1 where
  pub proposed : CutPlan → Type 0
  pub gathered : Type 0

-- the plan is the next one
pub record IsLatest (Past : Before) (u : State) (pair : Option AcceptedCut) (plan : CutPlan) : Type 0 where
  pub is : IsPlan u pair plan
  pub latest : (p : CutPlan) → Past.proposed p → IsPlanUpTo p plan

abbrev pub AreBehind : Before → State → Option AcceptedCut → Type 0
AreBehind Past u pair = (p : CutPlan) → Past.proposed p → IsBehind u pair p

abbrev pub OrderedStage : Before → State → Option AcceptedCut → Stage → Type 0
OrderedStage Past u pair (stage.Pulling left) = AreBehind Past u pair
OrderedStage Past u pair (stage.Spreading plan known) = AreBehind Past u pair × IsPlan u pair plan
OrderedStage Past u pair (stage.Proposing plan accepted) = IsLatest Past u pair plan
OrderedStage Past u pair (stage.Taking plan reported) = IsLatest Past u pair plan

pub record OrderedOpening (Past : Before) (o : Opening) : Type 0 where
  pub cuts : HasCutsTo o.union.book.cuts o.union.book.complete
  pub at : OrderedStage Past o.union o.pair o.stage

abbrev pub OrderedPhase : Before → Phase → Type 0
OrderedPhase Past phase.Idle = Unit {0}
OrderedPhase Past (phase.Creating c) = ⊥
OrderedPhase Past (phase.Fencing f) = ((p : CutPlan) → Past.proposed p → ⊥) × (Past.gathered → ⊥)
OrderedPhase Past (phase.Opening o) = OrderedOpening Past o
OrderedPhase Past (phase.Open w) = Unit {0}

abbrev pub OrderedTurn : Before → Phase → Transition → Type 0
OrderedTurn Past left (turn.Stay asked) = OrderedPhase Past left
OrderedTurn Past left (turn.Enter next asked) = OrderedPhase Past next
OrderedTurn Past left (turn.End asked) = Unit {0}

-- ---- what the step itself proposes
abbrev pub IsGathered : Phase → Type 0
IsGathered (phase.Opening o) = Unit {0}
IsGathered other = ⊥

stage_with : (Past More : Before) (u : State) (pair : Option AcceptedCut) (st : Stage) → ((p : CutPlan) → More.proposed p → Past.proposed p ⊎ IsPlanOf st p)
    → OrderedStage Past u pair st → OrderedStage More u pair st
stage_with Past More u pair (stage.Pulling left) split k = λ p more. ⊎_elim (λ past. k p past) (λ no. absurd no) (split p more)
stage_with Past More u pair (stage.Spreading plan known) split k = (λ p more. ⊎_elim (λ past. k.0 p past) (λ no. absurd no) (split p more), k.1)
stage_with Past More u pair (stage.Proposing plan accepted) split k =
    record { is = k.is; latest = λ p more. ⊎_elim (λ past. k.latest p past) (λ same. inl (sym same)) (split p more) }
stage_with Past More u pair (stage.Taking plan reported) split k =
    record { is = k.is; latest = λ p more. ⊎_elim (λ past. k.latest p past) (λ no. absurd no) (split p more) }

pub phase_with : (Past More : Before) (ph : Phase) → ((p : CutPlan) → More.proposed p → Past.proposed p ⊎ IsPlanIn ph p)
    → (More.gathered → Past.gathered ⊎ IsGathered ph) → OrderedPhase Past ph → OrderedPhase More ph
phase_with Past More phase.Idle split cut k = tt
phase_with Past More (phase.Creating c) split cut k = k
phase_with Past More (phase.Fencing f) split cut k =
    (λ p more. ⊎_elim (λ past. k.0 p past) (λ no. absurd no) (split p more), λ more. ⊎_elim (λ past. k.1 past) (λ no. absurd no) (cut more))
phase_with Past More (phase.Opening o) split cut k = record { cuts = k.cuts; at = stage_with Past More o.union o.pair o.stage split k.at }
phase_with Past More (phase.Open w) split cut k = tt

up_to_stage : (Past : Before) (u : State) (pair : Option AcceptedCut) (st : Stage) (plan : CutPlan) → OrderedStage Past u pair st → IsPlanOf st plan
    → (p : CutPlan) → Past.proposed p → IsPlanUpTo p plan
up_to_stage Past u pair (stage.Proposing own accepted) plan k is p past = subst (λ (q : CutPlan). IsPlanUpTo p q) is (k.latest p past)
up_to_stage Past u pair other plan k is p past = absurd is

pub up_to : (Past : Before) (ph : Phase) (plan : CutPlan) → OrderedPhase Past ph → IsPlanIn ph plan → (p : CutPlan) → Past.proposed p → IsPlanUpTo p plan
up_to Past (phase.Opening o) plan k is p past = up_to_stage Past o.union o.pair o.stage plan k.at is p past
up_to Past other plan k is p past = absurd is

-- ---- turns
module _ (Past : Before) (left : Phase) where
  pub on_stay : (t : Transition) (asked : List Action) → Stays t asked → OrderedPhase Past left → OrderedTurn Past left t
  on_stay (turn.Stay actions) asked says k = k
  on_stay (turn.Enter next actions) asked says k = absurd says
  on_stay (turn.End actions) asked says k = absurd says

  pub on_enter : (t : Transition) (next : Phase) (asked : List Action) → Enters t next asked → OrderedPhase Past next → OrderedTurn Past left t
  on_enter (turn.Stay actions) next asked says k = absurd says
  on_enter (turn.Enter p actions) next asked says k = subst (λ (q : Phase). OrderedPhase Past q) (sym says.0) k
  on_enter (turn.End actions) next asked says k = absurd says

  pub on_stop : (t : Transition) (f : Fault) → StopsWith t f → OrderedTurn Past left t
  on_stop (turn.Stay actions) f says = absurd says
  on_stop (turn.Enter next actions) f says = absurd says
  on_stop (turn.End actions) f says = tt

-- ---- an opening after a quorum is fenced
module _ (Past : Before) (quorum : ℕ) (old : Opening) (k : OrderedOpening Past old) where
  abbrev Left : Opening → Transition → Type 0
  Left new t = OrderedTurn Past (phase.Opening new) t

  goes_to : (new o : Opening) (t : Transition) (asked : List Action) → new ≡ o → OrderedOpening Past o → Stays t asked → Left new t
  goes_to new o t asked same ordered says =
      subst (λ (x : Opening). Left x t) (sym same) (on_stay Past (phase.Opening o) t asked says ordered)

  idle : (new : Opening) (t : Transition) → ChangesNothing old new t → Left new t
  idle new t says = goes_to new old t [] says.1 k says.0

  ends : (new : Opening) (t : Transition) (f : Fault) → EndsAlone old new t f → Left new t
  ends new t f says = on_stop Past (phase.Opening new) t f says.0

  -- ---- what comes after a union is whole
  plans : (u : State) (new : Opening) (t : Transition) → HasCutsTo u.book.cuts u.book.complete → AreBehind Past u old.pair → Plans old u new t → Left new t
  plans u new t cuts behind says = ⊎_elim
      (λ plan.
      goes_to new (with_union old u (stage.Spreading plan.0 no_nodes)) t _ plan.2 (record { cuts = cuts; at = (behind, plan.1) }) plan.3)
      (λ fault. ends new t fault.0 fault.2)
      says

  asks_with : (u : State) (left : List Bool) (asked : Option SummaryData) (new : Opening) (t : Transition) → HasCutsTo u.book.cuts u.book.complete
      → AreBehind Past u old.pair → AsksWith old left u asked new t → Left new t
  asks_with u left None new t cuts behind says = absurd says
  asks_with u left (Some asked) new t cuts behind says =
      goes_to new (asking_with old u asked (stage.Pulling left)) t _ says.1 (record { cuts = cuts; at = behind }) says.2

  goes_on_pulling : (u : State) (left : List Bool) (new : Opening) (t : Transition) → HasCutsTo u.book.cuts u.book.complete → AreBehind Past u old.pair
      → GoesOnPulling old u left new t → Left new t
  goes_on_pulling u left new t cuts behind says = ⊎_elim
      (λ first. asks_with u left new.asked new t cuts behind first.2)
      (λ rest. ⊎_elim
      (λ more. goes_to new (with_union old u (stage.Pulling left)) t [] more.2 (record { cuts = cuts; at = behind }) more.3)
      (λ all. plans u new t cuts behind all.1)
      rest)
      says

  hears_delta : (st : Stage) (node : ℕ) (delta : DeltaData) (new : Opening) (t : Transition) → OrderedStage Past old.union old.pair st
      → HearsDelta old st node delta new t → Left new t
  hears_delta (stage.Pulling left) node delta new t at says = ⊎_elim
      (λ among. ⊎_elim
      (λ damaged. ends new t Damaged damaged.1)
      (λ more.
      let u : State = more.0 in
      let by : GrowsBy old.union (asked_with old) delta u = more.1 in
      let larger : IsGrown old.union.book u.book = joined old.union.book delta.book u.book k.cuts by.absorbs.book.1 in
      goes_on_pulling u (slice_set left node false) new t larger.cuts
      (λ p past. behind_later old.union u old.pair p larger.rises (at p past)) more.2)
      among.1)
      (λ no. idle new t no.1)
      says
  hears_delta (stage.Spreading plan known) node delta new t at says = idle new t says
  hears_delta (stage.Proposing plan accepted) node delta new t at says = idle new t says
  hears_delta (stage.Taking plan reported) node delta new t at says = idle new t says

  hears_summary : (st : Stage) (node : ℕ) (summary : SummaryData) (new : Opening) (t : Transition) → HearsSummary old st node summary new t → Left new t
  hears_summary (stage.Spreading plan known) node summary new t says = ⊎_elim
      (λ damaged. ends new t Damaged damaged.1)
      (λ fills. goes_to new old t _ fills.2 k fills.3)
      says
  hears_summary (stage.Pulling left) node summary new t says = idle new t says
  hears_summary (stage.Proposing plan accepted) node summary new t says = idle new t says
  hears_summary (stage.Taking plan reported) node summary new t says = idle new t says

  -- ---- fronts, while the union is made known
  pulls_again : (node : ℕ) (new : Opening) (t : Transition) → AreBehind Past old.union old.pair → PullsAgain old node new t → Left new t
  pulls_again node new t behind says = ⊎_elim
      (λ no. idle new t no.1)
      (λ again.
      goes_to new (at_stage old (stage.Pulling (slice_set no_nodes node true))) t _ again.1 (record { cuts = k.cuts; at = behind }) again.2)
      says

  proposes : (plan : CutPlan) (new : Opening) (t : Transition) → AreBehind Past old.union old.pair → IsPlan old.union old.pair plan → ProposesPlan old plan new t
      → Left new t
  proposes plan new t behind is says = ⊎_elim
      (λ damaged. ends new t Damaged damaged.1)
      (λ sends.
      let next : IsLatest Past old.union old.pair plan =
      record { is = is; latest = λ p past. follows old.union old.pair p plan (behind p past) is } in
      goes_to new (opened_with old old.session old.union no_births (stage.Proposing plan no_nodes)) t _ sends.2
      (record { cuts = k.cuts; at = next }) sends.3)
      says

  knows_more : (plan : CutPlan) (known : List Bool) (new : Opening) (t : Transition) → AreBehind Past old.union old.pair → IsPlan old.union old.pair plan
      → Knows quorum old plan known new t → Left new t
  knows_more plan known new t behind is says = ⊎_elim
      (λ few. goes_to new (at_stage old (stage.Spreading plan known)) t [] few.1 (record { cuts = k.cuts; at = (behind, is) }) few.2)
      (λ enough. proposes plan new t behind is enough.1)
      says

  -- ---- fronts, while the plan is taken
  opens : (u : State) (cut : CutData) (new : Opening) (t : Transition) → OpensVolume old.session u cut t → Left new t
  opens u cut new (turn.Enter (phase.Open w) actions) says = tt
  opens u cut new (turn.Enter phase.Idle actions) says = absurd says.0
  opens u cut new (turn.Enter (phase.Creating c) actions) says = absurd says.0
  opens u cut new (turn.Enter (phase.Fencing f) actions) says = absurd says.0
  opens u cut new (turn.Enter (phase.Opening o) actions) says = absurd says.0
  opens u cut new (turn.Stay actions) says = absurd says.0
  opens u cut new (turn.End actions) says = tt

  -- after a pending plan, each plan so far is behind the union
  all_behind : (plan : CutPlan) (u : State) → IsLatest Past old.union old.pair plan → plan.is_pending ≡ true → old.union.book.complete ≤ u.book.complete
      → AreBehind Past u old.pair
  all_behind plan u latest pending rises p past =
      let next : plan.cut.epoch ≡ old.union.book.complete + 1 = plan_next old.union old.pair plan latest.is in
      ⊎_elim
      (λ (same : p ≡ plan).
      subst (λ (q : CutPlan). IsBehind u old.pair q) (sym same)
      (behind_later old.union u old.pair plan rises (pending, inr (pending_plan old.union old.pair plan latest.is pending))))
      (λ (before : (p.is_pending ≡ true) × (p.cut.epoch < plan.cut.epoch)).
      let low : p.cut.epoch < plan.cut.epoch = before.1 in
      behind_later old.union u old.pair p rises (before.0, inl (let far : p.cut.epoch ≤ old.union.book.complete = omega arith in far)))
      (latest.latest p past)

  begins_epoch : (plan : CutPlan) (new : Opening) (t : Transition) → IsLatest Past old.union old.pair plan → BeginsEpoch old plan new t → Left new t
  begins_epoch plan new t latest says = ⊎_elim
      (λ damaged. ends new t Damaged damaged.1)
      (λ taken.
      let u : State = taken.0 in
      let takes : TakesPlan old.union plan.cut u = taken.1 in
      let larger : IsGrown old.union.book u.book = taken_as old.union u plan.cut takes.taken k.cuts takes.changed takes.same in
      ⊎_elim
      (λ pending. plans u new t larger.cuts (all_behind plan u latest pending.0 larger.rises) pending.1)
      (λ own. opens u plan.cut new t own.1)
      taken.2)
      says

  hears_front : (st : Stage) (node : ℕ) (front : Front) (new : Opening) (t : Transition) → OrderedStage Past old.union old.pair st
      → HearsFront quorum old st node front new t → Left new t
  hears_front (stage.Spreading plan known) node front new t at says = ⊎_elim
      (λ later. pulls_again node new t at.0 later.1)
      (λ rest. ⊎_elim
      (λ no. idle new t no.2)
      (λ yes. knows_more plan (slice_set known node true) new t at.0 at.1 yes.1)
      rest)
      says
  hears_front (stage.Taking plan reported) node front new t at says = ⊎_elim
      (λ no. idle new t no.1)
      (λ yes. ⊎_elim
      (λ few. goes_to new (at_stage old (stage.Taking plan (slice_set reported node true))) t [] few.1 (record { cuts = k.cuts; at = at }) few.2)
      (λ enough. begins_epoch plan new t at enough.1)
      yes.1)
      says
  hears_front (stage.Pulling left) node front new t at says = idle new t says
  hears_front (stage.Proposing plan accepted) node front new t at says = idle new t says

  hears_headed : (node : ℕ) (shown : SegmentReply) (new : Opening) (t : Transition) → HearsHeaded quorum old node shown new t → Left new t
  hears_headed node (told.Delta delta) new t says = hears_delta old.stage node delta new t k.at says
  hears_headed node (told.Summary summary) new t says = hears_summary old.stage node summary new t says
  hears_headed node (told.Front front) new t says = hears_front old.stage node front new t k.at says
  hears_headed node other new t says = idle new t says

  -- ---- other replies
  hears_accepted : (st : Stage) (node epoch : ℕ) (new : Opening) (t : Transition) → OrderedStage Past old.union old.pair st
      → HearsAccepted quorum old st node epoch new t → Left new t
  hears_accepted (stage.Proposing plan accepted) node epoch new t at says = ⊎_elim
      (λ no. idle new t no.1)
      (λ yes. ⊎_elim
      (λ few. goes_to new (at_stage old (stage.Proposing plan (slice_set accepted node true))) t [] few.1 (record { cuts = k.cuts; at = at }) few.2)
      (λ enough. goes_to new (at_stage old (stage.Taking plan no_nodes)) t _ enough.1 (record { cuts = k.cuts; at = at }) enough.2)
      yes.1)
      says
  hears_accepted (stage.Pulling left) node epoch new t at says = idle new t says
  hears_accepted (stage.Spreading plan known) node epoch new t at says = idle new t says
  hears_accepted (stage.Taking plan reported) node epoch new t at says = idle new t says

  hears_late : (node generation birth : ℕ) (new : Opening) (t : Transition) → HearsLate old node generation birth new t → Left new t
  hears_late node generation birth new t says = ⊎_elim
      (λ no. idle new t no.1)
      (λ late.
      goes_to new (opened_with old (with_birth old.session node birth) old.union old.fresh old.stage) t _ late.1
      (record { cuts = k.cuts; at = k.at }) late.2)
      says

  hears_lost : (st : Stage) (node : ℕ) (new : Opening) (t : Transition) → HearsLost quorum old st node new t → Left new t
  hears_lost (stage.Pulling left) node new t says = ⊎_elim
      (λ lost. ends new t (NoQuorum lost.1.0 quorum) lost.1.1)
      (λ no. idle new t no.1)
      says
  hears_lost (stage.Spreading plan known) node new t says = idle new t says
  hears_lost (stage.Proposing plan accepted) node new t says = idle new t says
  hears_lost (stage.Taking plan reported) node new t says = idle new t says

  pub orders_opening : (node : ℕ) (shown : Reply) (new : Opening) (t : Transition) → HearsOpening quorum old node shown new t → Left new t
  orders_opening node (reply.Headed generation birth shown) new t says = ⊎_elim
      (λ own. hears_headed node shown new t own.1)
      (λ no. idle new t no.1)
      says
  orders_opening node (reply.Accepted generation birth epoch) new t says = ⊎_elim
      (λ own. hears_accepted old.stage node epoch new t k.at own.1)
      (λ no. idle new t no.1)
      says
  orders_opening node (reply.Fenced generation birth accepted) new t says = hears_late node generation birth new t says
  orders_opening node (reply.Admitted generation birth) new t says = hears_late node generation birth new t says
  orders_opening node (reply.Stale generation) new t says = ⊎_elim
      (λ up. ends new t (Fenced generation) up.1)
      (λ no. idle new t no.1)
      says
  orders_opening node (reply.Fresh birth) new t says = hears_lost old.stage node new t says
  orders_opening node other new t says = idle new t says
