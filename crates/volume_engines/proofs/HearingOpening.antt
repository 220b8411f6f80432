-- A step of an opening after a quorum is fenced.
use Rattle.std.proofs.Common.{◌≡◌, ◌≢◌, ℕ, suc, ◌<◌, ◌≤◌, ⊎_elim, inl, inr, List, [], ◌∷◌, ◌++◌, Bool, true, false, Option, Some, None, refl, sym, ◌∙◌, subst, ap, arith, length-set}
use Rattle.std.specs.Prelude.{slice_set, if◌then◌else◌}
use Rattle.std.specs.List.{Contains}
use Rattle.std.proofs.lemmas.List.Elements.{Contains-append_left, Contains-append_right}
use Rattle.redo_core.specs.Data.{RecordData, CutData}
use Rattle.redo_core.specs.Sets.{IsPart}
use Rattle.redo_core.specs.Sound.{IsSound}
use Rattle.redo_core.specs.declared.facts.Fact.{Fact}
use Rattle.redo_core.specs.declared.facts.Fact.TheVariants.{Cut}
use Rattle.redo_core.proofs.Members.{none_in}
use Rattle.messages.specs.Summaries.{SummaryData}
use Rattle.messages.specs.Deltas.{DeltaData}
use Rattle.segment_theorems.specs.State.{State}
use Rattle.segment_theorems.specs.Means.{Means}
use Rattle.segment_core.specs.declared.answers.Front.{Front}
use Rattle.gossip_core.specs.Absorbing.{Answers}
use Rattle.gossip_core.specs.Replying.{FillsSummary}
use Rattle.replica.specs.declared.replies.Reply.{Reply as SegmentReply}
use Rattle.replica.specs.declared.replies.Reply.TheVariants as told
use Rattle.replica.specs.Parts.{ReplicaData}
use Rattle.guard.specs.declared.replies.Reply.{Reply}
use Rattle.guard.specs.declared.replies.Reply.TheVariants as reply
use Rattle.volume.specs.declared.actions.Action.{Action}
use Rattle.volume.specs.declared.actions.Action.TheVariants.{Opened}
use Rattle.volume.specs.declared.actions.Fault.{Fault}
use Rattle.volume.specs.declared.actions.Fault.TheVariants.{Fenced, NoQuorum, Damaged}
use Rattle.volume.specs.declared.errands.Errand.TheVariants as errand
use Rattle.volume.specs.declared.errands.Query.TheVariants.{Fence}
use Rattle.volume.specs.declared.phases.Opening.{Opening}
use Rattle.volume.specs.declared.phases.Phase.TheVariants as phase
use Rattle.volume.specs.declared.phases.Session.{Session}
use Rattle.volume.specs.declared.phases.Stage.{Stage}
use Rattle.volume.specs.declared.phases.Stage.TheVariants as stage
use Rattle.volume.specs.declared.plans.CutPlan.{CutPlan}
use Rattle.volume.specs.declared.turns.Transition.{Transition}
use Rattle.volume.specs.declared.turns.Transition.TheVariants as turn
use Rattle.volume.specs.Opening.{opened_with, asking_with, asked_of, asked_with, at_stage, with_union, to_each, EndsAlone, ChangesNothing, IsQuorum, GrowsBy, Plans, AsksWith, GoesOnPulling, HearsDelta, HearsSummary, IsKnownAt, PullsAgain, joining_of, AdmitsFresh, ProposesPlan, Knows, HearsAccepted, BeginsEpoch, HearsFront, HearsHeaded, asks_in_stage, HearsLate, HearsLost, HearsOpening, asks_again, retries_opening}
use Rattle.volume.specs.Resuming.{IsOpened, OpensVolume}
use Rattle.volume.specs.Sessions.{IsOwn, with_birth}
use Rattle.volume.specs.Sets.{birth_at, is_marked, count_marked, no_nodes, no_births}
use Rattle.volume.specs.Turning.{Stays}
use Rattle.volume_theorems.specs.Nodes.{Content}
use Rattle.volume_theorems.specs.Runs.{VolumeRun, MakesMove}
use Rattle.volume_theorems.specs.Runs.Move.{Accepts as AcceptsCut}
use Rattle.volume_theorems.specs.Opening.{IsInQuorum, HasAsked, IsCutSent}
use Rattle.volume_theorems.proofs.ByMoment.{one_sent_by}
use Rattle.volume_theorems.specs.Stopping.{FollowsUntil}
use Rattle.volume_logs.specs.Histories.{History, log_at}
use Rattle.volume_logs.specs.Emitting.{IsEmitted}
use Rattle.volume_logs.proofs.Moments.{until_earlier}
use Rattle.volume_logs.proofs.Epochs.{in_epoch, at_later}
use Rattle.volume_logs.proofs.Sound.{log_is_sound}
use Rattle.volume_engines.specs.Lives.{Life, Guards, WasGiven}
use Rattle.volume_engines.specs.Proposals.{IsLifeIn}
use Rattle.volume_engines.proofs.Tables.{at_or_not, put_elsewhere, count_zero, none_marked, marked_more}
use Rattle.volume_engines.proofs.Sending.{IsDeltaOf, IsOwnProposal, IsOwnGeneration, HasOpenedAt, RightAction, AllRight, all_append, joins_each, to_one, query_one}
use Rattle.volume_engines.proofs.Sending.{to_each as each_node}
use Rattle.volume_engines.proofs.Bare.{bare_answered}
use Rattle.volume_engines.proofs.Admissions.{IsAdmission, joining_as, none_fresh}
use Rattle.volume_engines.proofs.Admitting.{admits}
use Rattle.volume_engines.proofs.Shown.{delta_says}
use Rattle.volume_engines.proofs.Knowing.{Own, KnowsSession, HasGiven, KnowsUnion, IsKnown, AreKnown, HaveAccepted, HasVotes, KnowsStage, KnowsOpening, Allowed, Wider, LeavesTurn}
use Rattle.volume_engines.proofs.Turning.{when_stays, when_stops}
use Rattle.volume_engines.proofs.Later.{means_later, given_later}
use Rattle.volume_engines.proofs.Heard.{IsHeard, heard, own_part, own_content, own_shown, own_known}
use Rattle.volume_engines.proofs.Named.{NamesPlan}
use Rattle.volume_engines.proofs.Proposing.{many_marked, plan_proposed}

-- a truncation that was sent is in the log
pub sent_in_log : (run : VolumeRun) (h : History) (stop t j : ℕ) (cut : CutData) → FollowsUntil run stop → IsEmitted run h stop → t ≤ stop → cut.epoch ≡ suc j
    → IsCutSent run t cut → Contains (log_at h t) (Cut cut)
sent_in_log run h stop t j cut follows emitted upto epoch sent =
    let newest : cut.epoch ≤ h.newest t = emitted.newest t cut upto sent in
    let other : IsCutSent run t (h.cuts (suc j)) = emitted.sent t (suc j) upto (omega arith) (omega arith) in
    let at : (h.cuts (suc j)).epoch ≡ suc j = emitted.epochs (suc j) in
    let same : h.cuts (suc j) ≡ cut =
    one_sent_by run t (h.cuts (suc j)) cut (until_earlier run t stop upto follows) other sent (at ∙ sym epoch) in
    in_epoch h t (h.newest t) j (Cut cut) (omega arith) (inl (ap (λ (c : CutData). Cut c) same))

if_right : (run : VolumeRun) (h : History) (e : ℕ) (Q : SummaryData → Type 0) (F : Fact → Type 0) (t : ℕ) (b : Bool) (actions : List Action)
    → AllRight run h e Q F t actions → AllRight run h e Q F t (if b then actions else [])
if_right run h e Q F t true actions is = is
if_right run h e Q F t false actions is = tt

-- the votes of a quorum send the plan's truncation
sent_plan : (run : VolumeRun) (e t : ℕ) (plan : CutPlan) → NamesPlan plan (run.engines e) → HasVotes run e t plan.cut.epoch → IsCutSent run t plan.cut
sent_plan run e t plan names votes = (e, names.cut, votes)

-- and open the epoch of the engine's own one
opened_plan : (run : VolumeRun) (e t epoch point : ℕ) (plan : CutPlan) → NamesPlan plan (run.engines e) → plan.is_pending ≡ false
    → HasVotes run e t plan.cut.epoch → epoch ≡ plan.cut.epoch → point ≡ plan.cut.lo → HasOpenedAt run e t epoch point
opened_plan run e t epoch point plan names own votes epoch_is point_is = (
  record { own = names.own own ∙ sym epoch_is; accepted = subst (λ (k : ℕ). HasVotes run e t k) (sym epoch_is) votes },
  point_is ∙ (ap (λ (c : CutData). c.lo) (sym names.cut) ∙ ap (λ (k : ℕ). ((run.engines e).cuts k).lo) (sym epoch_is)),
)

opened_right : (run : VolumeRun) (h : History) (e : ℕ) (Q : SummaryData → Type 0) (F : Fact → Type 0) (t : ℕ) (union : State) (plan : CutPlan) (actions : List Action)
    → NamesPlan plan (run.engines e) → plan.is_pending ≡ false → HasVotes run e t plan.cut.epoch → IsOpened union plan.cut actions
    → AllRight run h e Q F t actions
opened_right run h e Q F t union plan (Opened epoch point header ∷ []) names own votes is = (opened_plan run e t epoch point plan names own votes is.0 is.1, tt)
opened_right run h e Q F t union plan actions names own votes is = absurd is

module _ (run : VolumeRun) (h : History) (stop : ℕ) (content : ReplicaData → Content) (guards : Guards) (e : ℕ) (life : Life) (count : ℕ)
    (is : IsLifeIn run h stop content guards e life count) (n : ℕ) (step : n < count) (quorum : ℕ) (q_is : quorum ≡ run.quorum) (old : Opening)
    (k : KnowsOpening run h guards e life (life.moments n) old)
    (sent : (m : ℕ) → m < n → AllRight run h e (Allowed (phase.Opening old)) (Own life m) (life.moments m) (life.actions m)) where
  abbrev T : ℕ
  T = life.moments n

  abbrev Q : SummaryData → Type 0
  Q = Allowed (phase.Opening old)

  abbrev F : Fact → Type 0
  F = Own life n

  abbrev Left : Opening → Transition → Type 0
  Left new t = LeavesTurn run h guards e life n (phase.Opening old) (phase.Opening new) t

  mine : IsOwnGeneration run e old.session.generation
  mine = is.names.generation ∙ sym k.session.generation

  upto : life.moments n ≤ stop
  upto = is.upto n step

  -- what nodes are asked with is allowed
  asked_is : (a : Option SummaryData) → old.asked ≡ a → Q (asked_of a old.summary)
  asked_is None at = inl refl
  asked_is (Some s) at = inr at

  -- ---- what a turn leaves
  goes_to : (new o : Opening) (t : Transition) (asked : List Action) → new ≡ o → Wider (phase.Opening old) (phase.Opening o) → KnowsOpening run h guards e life T o
      → AllRight run h e (Allowed (phase.Opening o)) F T asked → Stays t asked → Left new t
  goes_to new o t asked same wider knows right stays =
      subst (λ (x : Opening). Left x t) (sym same)
      (when_stays run h guards e life n (phase.Opening old) (phase.Opening o) t asked stays
      (record { knows = knows; right = right; wider = wider }))

  -- a step that changes neither the summary nor what the others are asked with
  as_before : (s : SummaryData) → Q s → Q s
  as_before s own = own

  idle : (new : Opening) (t : Transition) → ChangesNothing old new t → Left new t
  idle new t says = goes_to new old t [] says.1 as_before k tt says.0

  ends : (new : Opening) (t : Transition) (f : Fault) → EndsAlone old new t f → Left new t
  ends new t f says = when_stops run h guards e life n (phase.Opening old) (phase.Opening new) t f says.0

  knows_on : (u : State) (st : Stage) → KnowsStage run h e T u old.pair st → KnowsOpening run h guards e life T (opened_with old old.session u old.fresh st)
  knows_on u st at = record { session = k.session; best = k.best; fresh = k.fresh; bare = k.bare; at = at }

  unmarked : (i : ℕ) → is_marked [] i ≡ true → ⊥
  unmarked i marked = let no : false ≡ true = marked in absurd (cc)

  asked_all : (u : State) → KnowsUnion run h e T u [] → HasAsked run e T
  asked_all u un = record {
    gathered = k.session.gathered;
    shown = λ i among. let x = un.given i among (unmarked i) in (x.0, x.1, x.2);
  }

  -- ---- what comes after a union is whole
  plans : (u : State) (new : Opening) (t : Transition) → KnowsUnion run h e T u [] → Plans old u new t → Left new t
  plans u new t un says = ⊎_elim
      (λ plan.
      let knows : AreKnown run h e T plan.0 no_nodes = λ i marked. absurd (none_marked i marked) in
      goes_to new (with_union old u (stage.Spreading plan.0 no_nodes)) t (to_each old errand.Ask) plan.2 as_before
      (knows_on u (stage.Spreading plan.0 no_nodes) (un, plan.1, knows))
      (each_node run h e Q F T 0 old.session.generation mine old.session.births errand.Ask tt) plan.3)
      (λ fault. ends new t fault.0 fault.2)
      says

  asks_with : (u : State) (left : List Bool) (asked : Option SummaryData) (new : Opening) (t : Transition) → KnowsUnion run h e T u left → old.asked ≡ None
      → AsksWith old left u asked new t → Left new t
  asks_with u left None new t un none says = absurd says
  asks_with u left (Some asked) new t un none says =
      let next : Opening = asking_with old u asked (stage.Pulling left) in
      goes_to new next t (to_each old (errand.Pull asked)) says.1
      (λ s own. ⊎_elim
      (λ (bare : s ≡ old.summary). inl bare)
      (λ (some : old.asked ≡ Some s). let no : None ≡ Some s = sym none ∙ some in absurd (cc))
      own)
      (record { session = k.session; best = k.best; fresh = k.fresh; bare = k.bare; at = un })
      (each_node run h e (Allowed (phase.Opening next)) F T 0 old.session.generation mine old.session.births (errand.Pull asked) (inr refl, k.session.upto))
      says.2

  goes_on_pulling : (u : State) (left : List Bool) (new : Opening) (t : Transition) → KnowsUnion run h e T u left → GoesOnPulling old u left new t → Left new t
  goes_on_pulling u left new t un says = ⊎_elim
      (λ first. asks_with u left new.asked new t un first.1 first.2)
      (λ rest. ⊎_elim
      (λ more. goes_to new (with_union old u (stage.Pulling left)) t [] more.2 as_before (knows_on u (stage.Pulling left) un) tt more.3)
      (λ all.
      let whole : KnowsUnion run h e T u [] = record {
        facts = un.facts;
        means = un.means;
        given = λ i among no. un.given i among (count_zero left all.0 i);
      } in
      plans u new t whole all.1)
      rest)
      says

  -- ---- deltas
  -- the union answers for each summary that nodes are asked with
  answers_each : Answers old.union (asked_with old) → (s : SummaryData) → Q s → Answers old.union s
  answers_each answers s own = ⊎_elim
      (λ (bare : s ≡ old.summary).
      subst (λ (x : SummaryData). Answers old.union x) (sym bare) (bare_answered old.union answers.0 old.summary answers.1 k.bare))
      (λ (some : old.asked ≡ Some s).
      subst (λ (x : SummaryData). Answers old.union x) (ap (λ (a : Option SummaryData). asked_of a old.summary) some) answers)
      own

  module _ (node generation birth : ℕ) (own : IsOwn old.session node generation birth) where
    pulled : (left : List Bool) (delta : DeltaData) (u : State) → IsHeard run guards e life n Q node generation birth (told.Delta delta)
        → KnowsUnion run h e T old.union left → GrowsBy old.union (asked_with old) delta u → KnowsUnion run h e T u (slice_set left node false)
    pulled left delta u x un grows =
        let p : ℕ = life.given n in
        let early : p < life.moments n = x.before in
        let late : life.moments n ≤ stop = upto in
        let says = delta_says run e x.moment Q (guards p node).replica (guards (suc p) node).replica x.inner delta x.right x.replies in
        let hold = own_part run h stop content guards e life count is n step Q old.session k.session node generation birth own (told.Delta delta) x in
        let sound : IsSound h.readers (log_at h T) = log_is_sound run h stop T is.follows is.emitted upto in
        let inner : IsPart (log_at h p) (log_at h T) = at_later run h stop is.emitted p T (omega arith) upto in
        let means : Means h.readers (log_at h T) hold.part (guards p node).replica.cached.segment =
        means_later h.readers (log_at h p) (log_at h T) hold.part (guards p node).replica.cached.segment inner hold.means in
        let answers : Answers old.union says.summary = answers_each grows.answers says.summary says.own in
        record {
          facts = un.facts ++ hold.part;
          means = grows.means says.summary answers h.readers (log_at h T) un.facts hold.part un.means.0 means.0 (record {
            sound = sound;
            means = un.means.1;
            part = means.1.part;
            position = means.1.position;
            fills = says.fills h.readers (log_at h T) hold.part means.0 sound means.1;
          });
          given = λ i among no. ⊎_elim
              (λ (here : i ≡ node).
              let mine : IsInQuorum run e node = subst (λ (j : ℕ). IsInQuorum run e j) here among in
              let first : (run.engines e).gathered ≤ x.moment = says.after in
              let passed : x.moment ≤ p = x.sent in
              let shown = own_shown run h stop content guards e life count is n step Q old.session k.session node generation birth own (told.Delta delta) x mine (omega arith) in
              let has : HasGiven run e T (un.facts ++ hold.part) node = (
                p,
                early,
                shown,
                (
                  hold.part,
                  λ f inside. Contains-append_right un.facts hold.part f inside,
                  own_content run h stop content guards e life count is n step Q old.session k.session node generation birth own (told.Delta delta) x,
                ),
              ) in
              subst (λ (j : ℕ). HasGiven run e T (un.facts ++ hold.part) j) (sym here) has)
              (λ (apart : i ≢ node).
              given_later run e T T i un.facts (un.facts ++ hold.part) (omega arith) (λ f inside. Contains-append_left un.facts hold.part f inside)
              (un.given i among (λ marked. no (put_elsewhere left node i false false apart ∙ marked))))
              (at_or_not i node);
        }

    hears_delta : (st : Stage) (delta : DeltaData) (new : Opening) (t : Transition) → IsHeard run guards e life n Q node generation birth (told.Delta delta)
        → KnowsStage run h e T old.union old.pair st → HearsDelta old st node delta new t → Left new t
    hears_delta (stage.Pulling left) delta new t x at says = ⊎_elim
        (λ among. ⊎_elim
        (λ damaged. ends new t Damaged damaged.1)
        (λ grown. goes_on_pulling grown.0 (slice_set left node false) new t (pulled left delta grown.0 x at grown.1) grown.2)
        among.1)
        (λ no. idle new t no.1)
        says
    hears_delta (stage.Spreading plan known) delta new t x at says = idle new t says
    hears_delta (stage.Proposing plan accepted) delta new t x at says = idle new t says
    hears_delta (stage.Taking plan reported) delta new t x at says = idle new t says

  -- the union fills a summary with facts of the log
  of_union : (summary : SummaryData) (delta : DeltaData) → KnowsUnion run h e T old.union [] → FillsSummary old.union summary delta → IsDeltaOf h T summary delta
  of_union summary delta un fills =
      let sound : IsSound h.readers (log_at h T) = log_is_sound run h stop T is.follows is.emitted upto in
      (un.facts, (un.means.0, un.means.1.part, un.means.1.position, fills h.readers (log_at h T) un.facts un.means.0 sound un.means.1))

  -- ---- summaries
  hears_summary : (st : Stage) (node : ℕ) (summary : SummaryData) (new : Opening) (t : Transition) → KnowsStage run h e T old.union old.pair st
      → HearsSummary old st node summary new t → Left new t
  hears_summary (stage.Spreading plan known) node summary new t at says = ⊎_elim
      (λ damaged. ends new t Damaged damaged.1)
      (λ fills.
      goes_to new old t _ fills.2 as_before k
      (to_one run h e Q F T node old.session.generation mine (birth_at old.session.births node) (errand.Push summary fills.0) (asked_all old.union at.0, of_union summary fills.0 at.0 fills.1.fills)) fills.3)
      says
  hears_summary (stage.Pulling left) node summary new t at says = idle new t says
  hears_summary (stage.Proposing plan accepted) node summary new t at says = idle new t says
  hears_summary (stage.Taking plan reported) node summary new t at says = idle new t says

  -- ---- fronts, while the union is made known
  joins_right : (o : Opening) (joins : List Action) → KnowsUnion run h e T old.union [] → AdmitsFresh old joins
      → AllRight run h e (Allowed (phase.Opening o)) F T joins
  joins_right o joins un says = ⊎_elim
      (λ none. subst (λ (xs : List Action). AllRight run h e (Allowed (phase.Opening o)) F T xs) (sym none.1) tt)
      (λ some. subst (λ (xs : List Action). AllRight run h e (Allowed (phase.Opening o)) F T xs) (sym some.4)
      (joins_each run h e (Allowed (phase.Opening o)) F T 0 old.session.generation old.fresh old.summary some.0 (joining_of old some.1)
      (of_union old.summary some.0 un some.2.fills)
      (λ i at b here has.
      let same : at ≡ i = omega (arith, here) in
      subst (λ (j : ℕ). IsAdmission run h e T j (joining_as old.session.generation b (joining_of old some.1))) (sym same)
      (admits run h stop e T old is.follows is.emitted upto k.session.gathered mine k.best k.fresh un some.1 some.3
      i b has))))
      says

  -- the step proposes a plan
  abbrev Names : Opening → Transition → Type 0
  Names new t = (plan : CutPlan) (accepted : List Bool) (asked : List Action) → Stays t asked → new.stage ≡ stage.Proposing plan accepted → NamesPlan plan (run.engines e)

  proposes : (plan : CutPlan) (known : List Bool) (new : Opening) (t : Transition) → Names new t → IsQuorum quorum known
      → KnowsStage run h e T old.union old.pair (stage.Spreading plan known) → ProposesPlan old plan new t → Left new t
  proposes plan known new t names enough at says = ⊎_elim
      (λ damaged. ends new t Damaged damaged.1)
      (λ sends.
      let next : Opening = opened_with old old.session old.union no_births (stage.Proposing plan no_nodes) in
      let named : NamesPlan plan (run.engines e) = names plan no_nodes _ sends.3 (ap (λ (o : Opening). o.stage) sends.2) in
      let own : IsOwnProposal run e T plan.cut =
      plan_proposed run h stop content guards e T old plan known is.follows is.emitted is.guarded upto k.best at.0
      (subst (λ (m : ℕ). m ≤ count_marked known) q_is enough) at.2 named k.session.gathered at.1 in
      let none : HaveAccepted run e T plan.cut.epoch no_nodes = λ i marked. absurd (none_marked i marked) in
      goes_to new next t _ sends.2 as_before (record { session = k.session; best = k.best; fresh = none_fresh run (run.engines e).gathered; bare = k.bare; at = (at.0, own, none, named) })
      (all_append (RightAction run h e Q F T) sends.0 (to_each old (errand.Propose plan.cut)) (joins_right next sends.0 at.0 sends.1)
      (each_node run h e Q F T 0 old.session.generation mine old.session.births (errand.Propose plan.cut) own))
      sends.3)
      says

  pulls_again : (node : ℕ) (new : Opening) (t : Transition) → KnowsUnion run h e T old.union [] → PullsAgain old node new t → Left new t
  pulls_again node new t un says = ⊎_elim
      (λ no. idle new t no.1)
      (λ again.
      let left : List Bool = slice_set no_nodes node true in
      let part : KnowsUnion run h e T old.union left =
      record { facts = un.facts; means = un.means; given = λ i among no. un.given i among (unmarked i) } in
      goes_to new (at_stage old (stage.Pulling left)) t _ again.1 as_before (knows_on old.union (stage.Pulling left) part)
      (to_one run h e Q F T node old.session.generation mine (birth_at old.session.births node) (errand.Pull (asked_with old)) (asked_is old.asked refl, k.session.upto)) again.2)
      says

  -- ---- the volume is open
  opens : (u : State) (plan : CutPlan) (new : Opening) (t : Transition) → HasAsked run e T → NamesPlan plan (run.engines e) → plan.is_pending ≡ false
      → HasVotes run e T plan.cut.epoch → OpensVolume old.session u plan.cut t → Left new t
  opens u plan new (turn.Enter (phase.Open w) actions) asked names own votes says = record {
    knows = (
      asked,
      subst (λ (c : CutData). IsCutSent run T c) (sym says.0.cut_is) (sent_plan run e T plan names votes),
      mine ∙ ap (λ (s : Session). s.generation) (sym says.0.session_is),
      λ r inside. absurd (none_in r (subst (λ (rs : List RecordData). Contains rs r) says.0.backlog inside)),
    );
    right = opened_right run h e (λ s. Unit {0}) F T u plan actions.items names own votes says.1;
    wider = λ s own. tt;
  }
  opens u plan new (turn.Enter phase.Idle actions) asked names own votes says = absurd says.0
  opens u plan new (turn.Enter (phase.Creating c) actions) asked names own votes says = absurd says.0
  opens u plan new (turn.Enter (phase.Fencing f) actions) asked names own votes says = absurd says.0
  opens u plan new (turn.Enter (phase.Opening o) actions) asked names own votes says = absurd says.0
  opens u plan new (turn.Stay actions) asked names own votes says = absurd says.0
  opens u plan new (turn.End actions) asked names own votes says =
      when_stops run h guards e life n (phase.Opening old) (phase.Opening new) (turn.End actions) Damaged says.0

  module _ (node generation birth : ℕ) (own : IsOwn old.session node generation birth) (within : node < run.roster) where
    knows_more : (plan : CutPlan) (known : List Bool) (front : Front) (new : Opening) (t : Transition)
        → IsHeard run guards e life n Q node generation birth (told.Front front) → Names new t
        → KnowsStage run h e T old.union old.pair (stage.Spreading plan known) → IsKnownAt plan front
        → Knows quorum old plan (slice_set known node true) new t → Left new t
    knows_more plan known front new t x names at is_at says =
        let one : IsKnown run h e T node plan =
        own_known run h stop content guards e life count is n step Q old.session k.session node generation birth own plan front x within is_at in
        let all : AreKnown run h e T plan (slice_set known node true) = λ i marked. ⊎_elim
        (λ (here : i ≡ node). subst (λ (j : ℕ). IsKnown run h e T j plan) (sym here) one)
        (λ (before : is_marked known i ≡ true). at.2 i before)
        (marked_more known node i marked) in
        ⊎_elim
        (λ few. goes_to new (at_stage old (stage.Spreading plan (slice_set known node true))) t [] few.1 as_before
        (knows_on old.union (stage.Spreading plan (slice_set known node true)) (at.0, at.1, all)) tt few.2)
        (λ enough. proposes plan (slice_set known node true) new t names enough.0 (at.0, at.1, all) enough.1)
        says

    -- ---- fronts, while the plan is taken
    begins_epoch : (plan : CutPlan) (reported : List Bool) (new : Opening) (t : Transition)
        → KnowsStage run h e T old.union old.pair (stage.Taking plan reported) → BeginsEpoch old plan new t → Left new t
    begins_epoch plan reported new t at says = ⊎_elim
        (λ damaged. ends new t Damaged damaged.1)
        (λ taken.
        let sound : IsSound h.readers (log_at h T) = log_is_sound run h stop T is.follows is.emitted upto in
        let inside : Contains (log_at h T) (Cut plan.cut) =
        sent_in_log run h stop T at.1.1.union.epoch plan.cut is.follows is.emitted upto at.1.1.next (sent_plan run e T plan at.3 at.2) in
        let union : KnowsUnion run h e T taken.0 [] = record {
          facts = at.0.facts ++ Cut plan.cut ∷ [];
          means = taken.1.means h.readers (log_at h T) at.0.facts sound inside at.0.means;
          given = λ i among no.
              given_later run e T T i at.0.facts (at.0.facts ++ Cut plan.cut ∷ []) (omega arith)
              (λ f had. Contains-append_left at.0.facts (Cut plan.cut ∷ []) f had) (at.0.given i among no);
        } in
        ⊎_elim
        (λ pending. plans taken.0 new t union pending.1)
        (λ own. opens taken.0 plan new t (asked_all taken.0 union) at.3 own.0 at.2 own.1)
        taken.2)
        says

    hears_front : (st : Stage) (front : Front) (new : Opening) (t : Transition) → IsHeard run guards e life n Q node generation birth (told.Front front) → Names new t
        → KnowsStage run h e T old.union old.pair st → HearsFront quorum old st node front new t → Left new t
    hears_front (stage.Spreading plan known) front new t x names at says = ⊎_elim
        (λ later. pulls_again node new t at.0 later.1)
        (λ rest. ⊎_elim
        (λ no. idle new t no.2)
        (λ yes. knows_more plan known front new t x names at yes.0 yes.1)
        rest)
        says
    hears_front (stage.Taking plan reported) front new t x names at says = ⊎_elim
        (λ no. idle new t no.1)
        (λ yes. ⊎_elim
        (λ few. goes_to new (at_stage old (stage.Taking plan (slice_set reported node true))) t [] few.1 as_before
        (knows_on old.union (stage.Taking plan (slice_set reported node true)) at) tt few.2)
        (λ enough. begins_epoch plan (slice_set reported node true) new t at enough.1)
        yes.1)
        says
    hears_front (stage.Pulling left) front new t x names at says = idle new t says
    hears_front (stage.Proposing plan accepted) front new t x names at says = idle new t says

    hears_headed : (shown : SegmentReply) (new : Opening) (t : Transition) → IsHeard run guards e life n Q node generation birth shown → Names new t
        → HearsHeaded quorum old node shown new t → Left new t
    hears_headed (told.Delta delta) new t x names says = hears_delta node generation birth own old.stage delta new t x k.at says
    hears_headed (told.Summary summary) new t x names says = hears_summary old.stage node summary new t k.at says
    hears_headed (told.Front front) new t x names says = hears_front old.stage front new t x names k.at says
    hears_headed other new t x names says = idle new t says

  -- ---- acceptances
  hears_accepted : (st : Stage) (node generation birth epoch : ℕ) (new : Opening) (t : Transition) → node < run.roster
      → WasGiven run guards e life n node (reply.Accepted generation birth epoch) → KnowsStage run h e T old.union old.pair st
      → HearsAccepted quorum old st node epoch new t → Left new t
  hears_accepted (stage.Proposing plan accepted) node generation birth epoch new t within given at says = ⊎_elim
      (λ no. idle new t no.1)
      (λ yes.
      let after : List Bool = slice_set accepted node true in
      let moved : MakesMove run (life.given n) node (AcceptsCut e plan.cut.epoch) =
      subst (λ (m : ℕ). MakesMove run (life.given n) node (AcceptsCut e m)) yes.0 given.moved in
      let all : HaveAccepted run e T plan.cut.epoch after = λ i marked. ⊎_elim
      (λ (here : i ≡ node). (
        subst (λ (j : ℕ). j < run.roster) (sym here) within,
        subst (λ (j : ℕ). (s : ℕ) × (s < T) × MakesMove run s j (AcceptsCut e plan.cut.epoch)) (sym here) (life.given n, given.before, moved),
      ))
      (λ (before : is_marked accepted i ≡ true). at.2 i before)
      (marked_more accepted node i marked) in
      ⊎_elim
      (λ few. goes_to new (at_stage old (stage.Proposing plan after)) t [] few.1 as_before
      (knows_on old.union (stage.Proposing plan after) (at.0, at.1, all, at.3)) tt few.2)
      (λ enough.
      let votes : HasVotes run e T plan.cut.epoch =
      many_marked run after (λ i. (s : ℕ) × (s < T) × MakesMove run s i (AcceptsCut e plan.cut.epoch))
      (subst (λ (m : ℕ). m ≤ count_marked after) q_is enough.0) all in
      goes_to new (at_stage old (stage.Taking plan no_nodes)) t _ enough.1 as_before
      (knows_on old.union (stage.Taking plan no_nodes) (at.0, at.1, votes, at.3))
      (each_node run h e Q F T 0 old.session.generation mine old.session.births (errand.Begin plan.cut)
      (asked_all old.union at.0, sent_plan run e T plan at.3 votes)) enough.2)
      yes.1)
      says
  hears_accepted (stage.Pulling left) node generation birth epoch new t within given at says = idle new t says
  hears_accepted (stage.Spreading plan known) node generation birth epoch new t within given at says = idle new t says
  hears_accepted (stage.Taking plan reported) node generation birth epoch new t within given at says = idle new t says

  -- ---- nodes that come late
  stage_asks : (u : State) (st : Stage) (generation node : ℕ) (b : Option ℕ) → IsOwnGeneration run e generation → KnowsStage run h e T u old.pair st
      → AllRight run h e Q F T (asks_in_stage generation st node b)
  stage_asks u (stage.Pulling left) generation node b same at = tt
  stage_asks u (stage.Spreading plan known) generation node b same at = to_one run h e Q F T node generation same b errand.Ask tt
  stage_asks u (stage.Proposing plan accepted) generation node b same at = to_one run h e Q F T node generation same b (errand.Propose plan.cut) at.1
  stage_asks u (stage.Taking plan reported) generation node b same at =
      to_one run h e Q F T node generation same b (errand.Begin plan.cut) (asked_all u at.0, sent_plan run e T plan at.3 at.2)

  late_session : (node birth : ℕ) → birth_at old.session.births node ≡ None → KnowsSession run guards e life T (with_birth old.session node birth)
  late_session node birth none = record {
    generation = k.session.generation;
    gathered = k.session.gathered;
    upto = k.session.upto;
    quorum = k.session.quorum;
    long = length-set old.session.births node (Some birth) ∙ k.session.long;
    own = λ i among.
        let apart : i ≢ node = λ same.
        let no : Some (guards ((run.engines e).fenced i) i).birth ≡ None =
        sym (k.session.own i among) ∙ (ap (λ (j : ℕ). birth_at old.session.births j) same ∙ none) in absurd (cc) in
        put_elsewhere old.session.births node i (Some birth) None apart ∙ k.session.own i among;
  }

  hears_late : (node generation birth : ℕ) (new : Opening) (t : Transition) → HearsLate old node generation birth new t → Left new t
  hears_late node generation birth new t says = ⊎_elim
      (λ no. idle new t no.1)
      (λ late.
      goes_to new (opened_with old (with_birth old.session node birth) old.union old.fresh old.stage) t _ late.1 as_before
      (record { session = late_session node birth late.0.1; best = k.best; fresh = k.fresh; bare = k.bare; at = k.at })
      (stage_asks old.union old.stage generation node (birth_at (with_birth old.session node birth).births node) (mine ∙ sym late.0.0) k.at) late.2)
      says

  hears_lost : (st : Stage) (node : ℕ) (new : Opening) (t : Transition) → HearsLost quorum old st node new t → Left new t
  hears_lost (stage.Pulling left) node new t says = ⊎_elim
      (λ lost. ends new t (NoQuorum lost.1.0 quorum) lost.1.1)
      (λ no. idle new t no.1)
      says
  hears_lost (stage.Spreading plan known) node new t says = idle new t says
  hears_lost (stage.Proposing plan accepted) node new t says = idle new t says
  hears_lost (stage.Taking plan reported) node new t says = idle new t says

  -- ---- replies
  pub hears_opening : (node : ℕ) (shown : Reply) (new : Opening) (t : Transition) → node < run.roster → WasGiven run guards e life n node shown → Names new t
      → HearsOpening quorum old node shown new t → Left new t
  hears_opening node (reply.Headed generation birth shown) new t within given names says = ⊎_elim
      (λ own. hears_headed node generation birth own.0 within shown new t (heard run h guards e life n Q node generation birth shown sent given) names own.1)
      (λ no. idle new t no.1)
      says
  hears_opening node (reply.Accepted generation birth epoch) new t within given names says = ⊎_elim
      (λ own. hears_accepted old.stage node generation birth epoch new t within given k.at own.1)
      (λ no. idle new t no.1)
      says
  hears_opening node (reply.Fenced generation birth accepted) new t within given names says = hears_late node generation birth new t says
  hears_opening node (reply.Admitted generation birth) new t within given names says = hears_late node generation birth new t says
  hears_opening node (reply.Stale generation) new t within given names says = ⊎_elim
      (λ up. ends new t (Fenced generation) up.1)
      (λ no. idle new t no.1)
      says
  hears_opening node (reply.Fresh birth) new t within given names says = hears_lost old.stage node new t says
  hears_opening node other new t within given names says = idle new t says

  -- ---- broken connections
  asks_right : (st : Stage) (node : ℕ) (b : Option ℕ) → KnowsStage run h e T old.union old.pair st → AllRight run h e Q F T (asks_again old st node b)
  asks_right (stage.Pulling left) node None at = query_one run h e Q F T node (Fence old.session.generation) mine
  asks_right (stage.Spreading plan known) node None at = query_one run h e Q F T node (Fence old.session.generation) mine
  asks_right (stage.Proposing plan accepted) node None at = query_one run h e Q F T node (Fence old.session.generation) mine
  asks_right (stage.Taking plan reported) node None at = query_one run h e Q F T node (Fence old.session.generation) mine
  asks_right (stage.Pulling left) node (Some birth) at =
      if_right run h e Q F T (is_marked left node) _ (to_one run h e Q F T node old.session.generation mine (Some birth) (errand.Pull (asked_with old)) (asked_is old.asked refl, k.session.upto))
  asks_right (stage.Spreading plan known) node (Some birth) at = stage_asks old.union (stage.Spreading plan known) old.session.generation node (Some birth) mine at
  asks_right (stage.Proposing plan accepted) node (Some birth) at = stage_asks old.union (stage.Proposing plan accepted) old.session.generation node (Some birth) mine at
  asks_right (stage.Taking plan reported) node (Some birth) at = stage_asks old.union (stage.Taking plan reported) old.session.generation node (Some birth) mine at

  pub retries_in_opening : (node : ℕ) (t : Transition) → Stays t (retries_opening old old.stage node) → Left old t
  retries_in_opening node t says =
      goes_to old old t (retries_opening old old.stage node) refl as_before k (asks_right old.stage node (birth_at old.session.births node) k.at) says
