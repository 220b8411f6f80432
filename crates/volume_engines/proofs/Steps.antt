-- One step after another.
use Rattle.std.proofs.Common.{◌≡◌, ℕ, zero, suc, ◌<◌, ◌≤◌, ◌⊎◌, ⊎_elim, inl, inr, List, [], ◌∷◌, ◌++◌, Bool, false, Some, None, refl, sym, ◌∙◌, subst, ap, arith}
use Rattle.std.specs.Prelude.{replicate}
use Rattle.std.specs.List.{Contains}
use Rattle.std.proofs.lemmas.Bool.{ne_eqb}
use Rattle.std.proofs.lemmas.List.Elements.{Contains-append_right}
use Rattle.redo_core.specs.Data.{RecordData, CutData, AdvanceData, advance_of}
use Rattle.redo_core.specs.declared.facts.Fact.{Fact}
use Rattle.redo_core.specs.declared.facts.Fact.TheVariants.{Record, Cut, Advance}
use Rattle.redo_core.proofs.Members.{each, here}
use Rattle.messages.specs.Summaries.{SummaryData}
use Rattle.replica.specs.Parts.{ReplicaData}
use Rattle.replica.specs.declared.requests.Request.TheVariants as segment
use Rattle.guard.specs.declared.requests.Request.{Request}
use Rattle.guard.specs.declared.requests.Request.TheVariants as request
use Rattle.guard.specs.declared.replies.Reply.{Reply}
use Rattle.guard.specs.declared.replies.Reply.TheVariants as reply
use Rattle.volume.specs.declared.actions.Action.{Action}
use Rattle.volume.specs.declared.actions.Action.TheVariants.{Ask, Opened, Refused}
use Rattle.volume.specs.declared.actions.Fault.{Fault}
use Rattle.volume.specs.declared.actions.Fault.TheVariants.{Fenced, NotFresh}
use Rattle.volume.specs.declared.errands.Query.TheVariants.{Fence}
use Rattle.volume.specs.declared.events.Event.{Event}
use Rattle.volume.specs.declared.events.Event.TheVariants as event
use Rattle.volume.specs.declared.phases.Opening.{Opening}
use Rattle.volume.specs.declared.phases.Phase.{Phase}
use Rattle.volume.specs.declared.phases.Phase.TheVariants as phase
use Rattle.volume.specs.declared.phases.Stage.{Stage}
use Rattle.volume.specs.declared.phases.Stage.TheVariants as stage
use Rattle.volume.specs.declared.phases.Writing.{Writing}
use Rattle.volume.specs.declared.plans.CutPlan.{CutPlan}
use Rattle.volume.specs.declared.turns.Transition.{Transition}
use Rattle.volume.specs.declared.turns.Transition.TheVariants as turn
use Rattle.volume.specs.Data.{VolumeData, volume_of, at_phase}
use Rattle.volume.specs.Fencing.{new_fencing}
use Rattle.volume.specs.Settings.{SettingsData}
use Rattle.volume.specs.Sets.{birth_at}
use Rattle.volume.specs.Stepping.{IsVolumeStep, OnlyRefuses, StartsOpening, CallsOpen, Hears, Retries, Turns}
use Rattle.volume.specs.Turning.{Stays}
use Rattle.volume.specs.Writing.{WritesPage, EndsTransaction, RaisesDurably, RaisesPoint}
use Rattle.volume_theorems.specs.Nodes.{Content}
use Rattle.volume_theorems.specs.Runs.{VolumeRun}
use Rattle.volume_theorems.specs.Opening.{IsCutSent}
use Rattle.volume_theorems.proofs.Proposing.{sent_later}
use Rattle.volume_theorems.specs.Stopping.{FollowsUntil}
use Rattle.volume_guards.specs.Guards.{IsAllowed}
use Rattle.volume_logs.specs.Histories.{History}
use Rattle.volume_logs.specs.Emitting.{IsEmitted}
use Rattle.volume_engines.specs.Lives.{Life, Guards, WasGiven, MayHappen}
use Rattle.volume_engines.specs.Engines.{fenced_in, fenced_at, fenced_by, Gathers}
use Rattle.volume_engines.specs.Emissions.{new_records, emitted, emitted_by}
use Rattle.volume_engines.specs.Proposed.{IsPlanOf, IsPlanIn}
use Rattle.volume_engines.specs.Proposals.{IsLifeIn, ProposalsKeepRules}
use Rattle.volume_engines.specs.World.{HasGuards}
use Rattle.volume_engines.specs.Admitted.{AdmissionsKeepRules, RequestsKeepRules}
use Rattle.volume_engines.specs.Openings.{IsOpening, TakesKeepRules, OpeningsAreDurable}
use Rattle.volume_engines.proofs.Tables.{no_birth}
use Rattle.volume_engines.proofs.Admissions.{fresh_later, none_fresh, admits_later}
use Rattle.volume_engines.proofs.Sending.{IsOwnProposal, HasOpenedAt, Right, RightAction, AllRight, all_wider, queries_each}
use Rattle.volume_engines.proofs.Knowing.{Own, HasOwn, pair_at, KnowsFencing, KnowsOpening, KnowsOpen, KnowsPhase, Allowed, Leaves, LeavesTurn}
use Rattle.volume_engines.proofs.Emissions.{emitted_more, emits_open}
use Rattle.volume_engines.proofs.OpenSteps.{one_more, raise_gives}
use Rattle.volume_engines.proofs.OrderedSteps.{plans_in_order}
use Rattle.volume_engines.proofs.Named.{NamesPlan, names_plan}
use Rattle.volume_engines.proofs.Turning.{when_stays}
use Rattle.volume_engines.proofs.Fencing.{table_stays_below}
use Rattle.volume_engines.proofs.HearingFencing.{EntersOpening, hears_fencing, retries_fencing}
use Rattle.volume_engines.proofs.Later.{proposal_later, open_later, opened_later, session_later, stage_later}
use Rattle.volume_engines.proofs.HearingOpening.{hears_opening, retries_in_opening}
use Rattle.volume_engines.proofs.HearingWriting.{page_right, end_right, raise_right, hears_writing, retries_writing}

-- ---- what a turn says of the phase after it
enters_phase : (old new : VolumeData) (left : Phase) (t : Transition) (actions : List Action) (o : Opening) → EntersOpening t o → Turns old left t actions new
    → new.phase ≡ phase.Opening o
enters_phase old new left (turn.Enter (phase.Opening p) asked) actions o same says =
    ap (λ (v : VolumeData). v.phase) says.1 ∙ ap (λ (x : Opening). phase.Opening x) same
enters_phase old new left (turn.Enter phase.Idle asked) actions o same says = absurd same
enters_phase old new left (turn.Enter (phase.Creating c) asked) actions o same says = absurd same
enters_phase old new left (turn.Enter (phase.Fencing f) asked) actions o same says = absurd same
enters_phase old new left (turn.Enter (phase.Open w) asked) actions o same says = absurd same
enters_phase old new left (turn.Stay asked) actions o same says = absurd same
enters_phase old new left (turn.End asked) actions o same says = absurd same

stays_phase : (old new : VolumeData) (left : Phase) (t : Transition) (actions asked : List Action) → Stays t asked → Turns old left t actions new → new.phase ≡ left
stays_phase old new left (turn.Stay xs) actions asked stays says = ap (λ (v : VolumeData). v.phase) says.1
stays_phase old new left (turn.Enter next xs) actions asked stays says = absurd stays
stays_phase old new left (turn.End xs) actions asked stays says = absurd stays

-- nothing is heard of a node elsewhere
fenced_not : (told : Reply) (own at before : ℕ) → fenced_in told own false at before ≡ before
fenced_not (reply.Fenced generation birth accepted) own at before = refl
fenced_not told own at before = refl

no_pair : (n i : ℕ) → pair_at (replicate n None) i ≡ None
no_pair zero i = refl
no_pair (suc n) zero = refl
no_pair (suc n) (suc i) = no_pair n i

module _ (run : VolumeRun) (h : History) (stop : ℕ) (content : ReplicaData → Content) (guards : Guards) (e : ℕ) (life : Life) (count : ℕ)
    (is : IsLifeIn run h stop content guards e life count) where
  -- what is known after step n
  pub record Knows (n : ℕ) (v : VolumeData) : Type 0 where
    pub settings : v.settings ≡ (life.states 0).settings
    pub generation : v.generation ≡ life.generation
    pub knows : KnowsPhase run h guards e life n v.phase
    pub sent : (m : ℕ) → m < suc n → AllRight run h e (Allowed v.phase) (Own life m) (life.moments m) (life.actions m)

  module _ (n : ℕ) (step : suc n < count) (old new : VolumeData) (k : Knows n old) where
    in_time : life.moments n ≤ life.moments (suc n)
    in_time = is.lives.in_time n step

    -- ---- a step that leads to a phase
    leads : (p q : Phase) → old.phase ≡ p → new ≡ at_phase old q → Leaves run h guards e life (suc n) p q (life.actions (suc n)) → Knows (suc n) new
    leads p q from same leaves =
        let before : (m : ℕ) → m < suc n → AllRight run h e (Allowed p) (Own life m) (life.moments m) (life.actions m) =
        subst (λ (x : Phase). (m : ℕ) → m < suc n → AllRight run h e (Allowed x) (Own life m) (life.moments m) (life.actions m)) from k.sent in
        let after : Knows (suc n) (at_phase old q) = record {
          settings = k.settings;
          generation = k.generation;
          knows = leaves.knows;
          sent = λ m within. ⊎_elim
              (λ (now : m ≡ suc n).
              subst (λ (x : ℕ). AllRight run h e (Allowed q) (Own life x) (life.moments x) (life.actions x)) (sym now) leaves.right)
              (λ (early : m < suc n).
              all_wider run h e (Allowed p) (Allowed q) (Own life m) (life.moments m) leaves.wider (life.actions m) (before m early))
              (let way : (m ≡ suc n) ⊎ (m < suc n) = grind (arith, within) in way);
        } in
        subst (λ (v : VolumeData). Knows (suc n) v) (sym same) after

    leaves_as : (p q : Phase) (asked : List Action) → life.actions (suc n) ≡ asked → Leaves run h guards e life (suc n) p q asked
        → Leaves run h guards e life (suc n) p q (life.actions (suc n))
    leaves_as p q asked same leaves = subst (λ (xs : List Action). Leaves run h guards e life (suc n) p q xs) (sym same) leaves

    turned : (p left : Phase) (t : Transition) → old.phase ≡ p → LeavesTurn run h guards e life (suc n) p left t → Turns old left t (life.actions (suc n)) new
        → Knows (suc n) new
    turned p left (turn.Stay asked) from leaves says = leads p left from says.1 (leaves_as p left asked.items says.0 leaves)
    turned p left (turn.Enter next asked) from leaves says = leads p next from says.1 (leaves_as p next asked.items says.0 leaves)
    turned p left (turn.End asked) from leaves says = leads p phase.Idle from says.1 (leaves_as p phase.Idle asked.items says.0 leaves)

    own_later : (f : Fact) → Own life n f → Own life (suc n) f
    own_later f own = emitted_more life (suc n) f own

    -- ---- a step after which nothing is new
    abbrev SameBelow : Type 0
    SameBelow = (i : ℕ) → i < run.roster → fenced_by life (suc (suc n)) i ≡ fenced_by life (suc n) i

    phase_later : (p : Phase) → SameBelow → KnowsPhase run h guards e life n p → KnowsPhase run h guards e life (suc n) p
    phase_later phase.Idle same knows = tt
    phase_later (phase.Creating c) same knows = knows
    phase_later (phase.Fencing f) same knows = record {
      generation = knows.generation;
      table = table_stays_below run guards e life n in_time f.births f.pairs same knows.table;
      fresh = fresh_later run (life.moments n) (life.moments (suc n)) f.fresh in_time knows.fresh;
    }
    phase_later (phase.Opening o) same knows = record {
      session = session_later run guards e life (life.moments n) (life.moments (suc n)) o.session in_time knows.session;
      best = knows.best;
      fresh = knows.fresh;
      bare = knows.bare;
      at = stage_later run h stop e (life.moments n) (life.moments (suc n)) is.emitted in_time (is.upto (suc n) step) o.union o.pair o.stage knows.at;
    }
    phase_later (phase.Open w) same knows = open_later run e (life.moments n) (life.moments (suc n)) (Own life n) (Own life (suc n)) w in_time own_later knows

    unchanged : (actions : List Action) → SameBelow → life.actions (suc n) ≡ actions → AllRight run h e (Allowed old.phase) (Own life (suc n)) (life.moments (suc n)) actions
        → new ≡ old → Knows (suc n) new
    unchanged actions same asks right stays =
        leads old.phase old.phase refl stays
        (leaves_as old.phase old.phase actions asks
        (record { knows = phase_later old.phase same k.knows; right = right; wider = λ s own. own }))

    open_known : (w : Writing) → old.phase ≡ phase.Open w → KnowsOpen run e (life.moments (suc n)) (Own life (suc n)) w
    open_known w from =
        open_later run e (life.moments n) (life.moments (suc n)) (Own life n) (Own life (suc n)) w in_time own_later (subst (λ (x : Phase). KnowsPhase run h guards e life n x) from k.knows)

    only_refuses : (f : Fault) → SameBelow → OnlyRefuses old f (life.actions (suc n)) new → Knows (suc n) new
    only_refuses f same says = unchanged (Refused f ∷ []) same says.0 (tt, tt) says.1

    fenced_same : (ev : Event) → life.events (suc n) ≡ ev → (i : ℕ)
        → fenced_by life (suc (suc n)) i ≡ fenced_at ev life.generation i (life.given (suc n)) (fenced_by life (suc n) i)
    fenced_same ev at i = ap (λ (x : Event). fenced_at x life.generation i (life.given (suc n)) (fenced_by life (suc n) i)) at

    -- ---- calls
    calls_open : (does : Writing → List Action → Writing → Type 0) (p : Phase) → old.phase ≡ p → SameBelow
        → ((w after : Writing) → KnowsOpen run e (life.moments (suc n)) (Own life (suc n)) w → old.phase ≡ phase.Open w → new.phase ≡ phase.Open after
        → does w (life.actions (suc n)) after
        → (after.cut ≡ w.cut) × (after.session.generation ≡ w.session.generation)
        × AllRight run h e (λ s. Unit {0}) (Own life (suc n)) (life.moments (suc n)) (life.actions (suc n)) × HasOwn (Own life (suc n)) after.backlog)
        → CallsOpen does old p (life.actions (suc n)) new → Knows (suc n) new
    calls_open does (phase.Open w) from same right says =
        let known : KnowsOpen run e (life.moments (suc n)) (Own life (suc n)) w = open_known w from in
        let keeps = right w says.0 known from (ap (λ (v : VolumeData). v.phase) says.2) says.1 in
        leads (phase.Open w) (phase.Open says.0) from says.2
        (record {
          knows = (known.0, subst (λ (c : CutData). IsCutSent run (life.moments (suc n)) c) (sym keeps.0) known.1, known.2 ∙ sym keeps.1, keeps.3);
          right = keeps.2;
          wider = λ s own. tt;
        })
    calls_open does phase.Idle from same right says = only_refuses _ same says
    calls_open does (phase.Creating c) from same right says = only_refuses _ same says
    calls_open does (phase.Fencing f) from same right says = only_refuses _ same says
    calls_open does (phase.Opening o) from same right says = only_refuses _ same says

    -- ---- settings
    nodes_are : old.settings.nodes ≡ run.roster
    nodes_are = ap (λ (s : SettingsData). s.nodes) k.settings ∙ is.lives.nodes

    quorum_is : old.settings.quorum ≡ run.quorum
    quorum_is = ap (λ (s : SettingsData). s.quorum) k.settings ∙ is.lives.quorum

    readers_are : old.settings.roster ≡ h.readers
    readers_are = ap (λ (s : SettingsData). s.roster) k.settings ∙ is.readers

    at_most : old.settings.nodes ≤ 15
    at_most = let same : old.settings.nodes ≡ (life.states 0).settings.nodes = ap (λ (s : SettingsData). s.nodes) k.settings in
        let most : (life.states 0).settings.nodes ≤ 15 = is.lives.settings.most in omega arith

    knows_of : (p : Phase) → old.phase ≡ p → KnowsPhase run h guards e life n p
    knows_of p from = subst (λ (x : Phase). KnowsPhase run h guards e life n x) from k.knows

    sent_of : (p : Phase) → old.phase ≡ p → (m : ℕ) → m < suc n → AllRight run h e (Allowed p) (Own life m) (life.moments m) (life.actions m)
    sent_of p from = subst (λ (x : Phase). (m : ℕ) → m < suc n → AllRight run h e (Allowed x) (Own life m) (life.moments m) (life.actions m)) from k.sent

    opening_later : (o : Opening) → KnowsOpening run h guards e life (life.moments n) o → KnowsOpening run h guards e life (life.moments (suc n)) o
    opening_later o knows = record {
      session = session_later run guards e life (life.moments n) (life.moments (suc n)) o.session in_time knows.session;
      best = knows.best;
      fresh = knows.fresh;
      bare = knows.bare;
      at = stage_later run h stop e (life.moments n) (life.moments (suc n)) is.emitted in_time (is.upto (suc n) step) o.union o.pair o.stage knows.at;
    }

    -- ---- replies
    module _ (before : life.states (suc n) ≡ old) (after : life.states (suc (suc n)) ≡ new) where
      phase_before : (p : Phase) → old.phase ≡ p → (life.states (suc n)).phase ≡ p
      phase_before p from = ap (λ (v : VolumeData). v.phase) before ∙ from

      phase_after : (p : Phase) → new.phase ≡ p → (life.states (suc (suc n))).phase ≡ p
      phase_after p to = ap (λ (v : VolumeData). v.phase) after ∙ to

      hears : (p left : Phase) (t : Transition) (node : ℕ) (told : Reply) → old.phase ≡ p → node < old.settings.nodes
          → life.events (suc n) ≡ event.Answered node told → WasGiven run guards e life (suc n) node told
          → Hears old.settings p node told left t → Turns old left t (life.actions (suc n)) new → Knows (suc n) new
      hears phase.Idle left t node told from inside at given says turns =
          let stays : LeavesTurn run h guards e life (suc n) phase.Idle phase.Idle t =
          when_stays run h guards e life (suc n) phase.Idle phase.Idle t [] says.0 (record { knows = tt; right = tt; wider = λ s own. tt }) in
          turned phase.Idle left t from (subst (λ (q : Phase). LeavesTurn run h guards e life (suc n) phase.Idle q t) (sym says.1) stays) turns
      hears (phase.Creating c) left t node told from inside at given says turns = absurd (knows_of (phase.Creating c) from)
      hears (phase.Fencing f) left t node told from inside at given says turns =
          let names : (o : Opening) → EntersOpening t o → Gathers life (suc n) o (run.engines e) = λ o enters.
          is.names.gathers (suc n) f o step (phase_before (phase.Fencing f) from) (phase_after (phase.Opening o) (enters_phase old new left t (life.actions (suc n)) o enters turns)) in
          let leaves : LeavesTurn run h guards e life (suc n) (phase.Fencing f) (phase.Fencing f) t =
          hears_fencing run h stop content guards e life count is n step old.settings at_most nodes_are quorum_is readers_are f node told t inside at given
          (knows_of (phase.Fencing f) from) names says.0 in
          turned (phase.Fencing f) left t from (subst (λ (q : Phase). LeavesTurn run h guards e life (suc n) (phase.Fencing f) q t) (sym says.1) leaves) turns
      hears (phase.Opening o) (phase.Opening p) t node told from inside at given says turns =
          let names : (plan : CutPlan) (accepted : List Bool) (asked : List Action) → Stays t asked → p.stage ≡ stage.Proposing plan accepted → NamesPlan plan (run.engines e) =
          λ plan accepted asked stays proposing.
          names_plan life count (run.engines e) is.names (plans_in_order run guards e life count is.lives) (suc n) plan step
          (subst (λ (ph : Phase). IsPlanIn ph plan)
          (sym (phase_after (phase.Opening p) (stays_phase old new (phase.Opening p) t (life.actions (suc n)) asked stays turns)))
          (subst (λ (st : Stage). IsPlanOf st plan) (sym proposing) refl)) in
          turned (phase.Opening o) (phase.Opening p) t from
          (hears_opening run h stop content guards e life count is (suc n) step old.settings.quorum quorum_is o
          (opening_later o (knows_of (phase.Opening o) from)) (sent_of (phase.Opening o) from)
          node told p t (let same : old.settings.nodes ≡ run.roster = nodes_are in omega arith) given names says) turns
      hears (phase.Opening o) phase.Idle t node told from inside at given says turns = absurd says
      hears (phase.Opening o) (phase.Creating c) t node told from inside at given says turns = absurd says
      hears (phase.Opening o) (phase.Fencing f) t node told from inside at given says turns = absurd says
      hears (phase.Opening o) (phase.Open w) t node told from inside at given says turns = absurd says
      hears (phase.Open w) (phase.Open x) t node told from inside at given says turns =
          let known : KnowsOpen run e (life.moments (suc n)) (Own life (suc n)) w = open_known w from in
          turned (phase.Open w) (phase.Open x) t from
          (hears_writing run h guards e life (suc n) known.0 w known.1 known.2 known.3 old.settings.quorum node told x t says) turns
      hears (phase.Open w) phase.Idle t node told from inside at given says turns = absurd says
      hears (phase.Open w) (phase.Creating c) t node told from inside at given says turns = absurd says
      hears (phase.Open w) (phase.Fencing f) t node told from inside at given says turns = absurd says
      hears (phase.Open w) (phase.Opening o) t node told from inside at given says turns = absurd says

      -- ---- broken connections
      retries : (p : Phase) (t : Transition) (node : ℕ) → old.phase ≡ p → life.events (suc n) ≡ event.Failed node → Retries old.settings p node t
          → Turns old p t (life.actions (suc n)) new → Knows (suc n) new
      retries phase.Idle t node from at says turns =
          turned phase.Idle phase.Idle t from
          (when_stays run h guards e life (suc n) phase.Idle phase.Idle t [] says (record { knows = tt; right = tt; wider = λ s own. tt })) turns
      retries (phase.Creating c) t node from at says turns = absurd (knows_of (phase.Creating c) from)
      retries (phase.Fencing f) t node from at says turns =
          turned (phase.Fencing f) (phase.Fencing f) t from
          (retries_fencing run h stop content guards e life count is n step old.settings at_most nodes_are quorum_is readers_are f node t at
          (knows_of (phase.Fencing f) from) says) turns
      retries (phase.Opening o) t node from at says turns =
          turned (phase.Opening o) (phase.Opening o) t from
          (retries_in_opening run h stop content guards e life count is (suc n) step old.settings.quorum quorum_is o
          (opening_later o (knows_of (phase.Opening o) from)) (sent_of (phase.Opening o) from) node t says) turns
      retries (phase.Open w) t node from at says turns =
          let known : KnowsOpen run e (life.moments (suc n)) (Own life (suc n)) w = open_known w from in
          turned (phase.Open w) (phase.Open w) t from
          (retries_writing run h guards e life (suc n) known.0 w known.1 known.2 known.3 node (birth_at w.session.births node) t says) turns

      -- ---- what a call emits
      emits : (w x : Writing) (ev : Event) (more : List Fact) → life.events (suc n) ≡ ev → old.phase ≡ phase.Open w → new.phase ≡ phase.Open x
          → emitted ev (life.actions (suc n)) w x ≡ more → emitted_by life (suc (suc n)) ≡ emitted_by life (suc n) ++ more
      emits w x ev more at from to gives =
          emits_open life (suc n) w x (phase_before (phase.Open w) from) (phase_after (phase.Open x) to)
          ∙ ap (λ (fs : List Fact). emitted_by life (suc n) ++ fs) (ap (λ (v : Event). emitted v (life.actions (suc n)) w x) at ∙ gives)

      own_last : (f : Fact) → emitted_by life (suc (suc n)) ≡ emitted_by life (suc n) ++ f ∷ [] → Own life (suc n) f
      own_last f all =
          subst (λ (fs : List Fact). Contains fs f) (sym all) (Contains-append_right (emitted_by life (suc n)) (f ∷ []) f (here f []))

      own_record : (w x : Writing) (ev : Event) (r : RecordData) → life.events (suc n) ≡ ev → old.phase ≡ phase.Open w → new.phase ≡ phase.Open x
          → emitted ev (life.actions (suc n)) w x ≡ new_records w.backlog x.backlog → x.backlog ≡ w.backlog ++ r ∷ [] → Own life (suc n) (Record r)
      own_record w x ev r at from to gives adds =
          own_last (Record r) (emits w x ev (Record r ∷ []) at from to (gives ∙ one_more w.backlog x.backlog r adds))

      own_advance : (w x : Writing) (reader point : ℕ) → life.events (suc n) ≡ event.Advance reader point → old.phase ≡ phase.Open w
          → new.phase ≡ phase.Open x → RaisesDurably w reader point x (life.actions (suc n)) → Own life (suc n) (Advance (advance_of w.writer.epoch reader point))
      own_advance w x reader point at from to raises =
          let a : AdvanceData = advance_of w.writer.epoch reader point in
          own_last (Advance a) (emits w x (event.Advance reader point) (Advance a ∷ []) at from to (raise_gives w x reader point (life.actions (suc n)) raises))

      -- ---- events
      below_out : (node : ℕ) (told : Reply) → old.settings.nodes ≤ node → life.events (suc n) ≡ event.Answered node told → SameBelow
      below_out node told out at i low =
          let apart : node ≡ i → ⊥ = λ same. let roster : old.settings.nodes ≡ run.roster = nodes_are in absurd (omega arith) in
          fenced_same (event.Answered node told) at i
          ∙ ap (λ (b : Bool). fenced_in told life.generation b (life.given (suc n)) (fenced_by life (suc n) i)) (ne_eqb node i apart)
          ∙ fenced_not told life.generation (life.given (suc n)) (fenced_by life (suc n) i)

      by_event : (ev : Event) → life.events (suc n) ≡ ev → MayHappen run guards e life (suc n) ev → IsVolumeStep old ev (life.actions (suc n)) new → Knows (suc n) new
      by_event event.Create at may says = ⊎_elim
          (λ no. only_refuses NotFresh (λ i low. fenced_same event.Create at i) no.1)
          (λ first.
          let none : old.generation ≡ 0 = first.0 in
          let own : old.generation ≡ life.generation = k.generation in
          let above : (life.states 0).generation < life.generation = is.lives.above in
          absurd (omega arith))
          says
      by_event (event.Open generation) at may says = ⊎_elim
          (λ no. only_refuses (Fenced old.generation) (λ i low. fenced_same (event.Open generation) at i) no.1)
          (λ up.
          let more : old.generation < generation = up.0 in
          let upto : generation ≤ life.generation = may in
          let own : old.generation ≡ life.generation = k.generation in
          absurd (omega arith))
          says
      by_event (event.Write page init patches) at may says =
          calls_open (λ w asked after. WritesPage w page init patches.items asked after) old.phase refl (λ i low. fenced_same (event.Write page init patches) at i)
          (λ w x known from to does.
          page_right run h guards e life (suc n) known.0 w x (life.actions (suc n)) known.2 known.3 page init patches.items
          (λ r adds. own_record w x (event.Write page init patches) r at from to refl adds) does) says
      by_event (event.Commit header) at may says =
          calls_open (λ w asked after. EndsTransaction w header.items asked after) old.phase refl (λ i low. fenced_same (event.Commit header) at i)
          (λ w x known from to does.
          end_right run h guards e life (suc n) known.0 w x (life.actions (suc n)) known.2 known.3 header.items
          (λ r adds. own_record w x (event.Commit header) r at from to refl adds) does) says
      by_event (event.Advance reader point) at may says =
          calls_open (λ w asked after. RaisesPoint w reader point asked after) old.phase refl (λ i low. fenced_same (event.Advance reader point) at i)
          (λ w x known from to does.
          raise_right run h guards e life (suc n) known.0 w x (life.actions (suc n)) known.2 known.3 reader point
          (λ raises. own_advance w x reader point at from to raises) does) says
      by_event (event.Answered node told) at may says = ⊎_elim
          (λ out. unchanged [] (below_out node told out.0 at) out.1 tt out.2)
          (λ inside. hears old.phase inside.1.0 inside.1.1 node told refl inside.0 at may inside.1.2 inside.1.3)
          says
      by_event (event.Failed node) at may says = ⊎_elim
          (λ out. unchanged [] (λ i low. fenced_same (event.Failed node) at i) out.1 tt out.2)
          (λ inside. retries old.phase inside.1.0 node refl at inside.1.1 inside.1.2)
          says

  -- ---- the first step
  fresh_table : KnowsFencing run guards e life 0 (new_fencing life.generation)
  fresh_table = record {
    generation = refl;
    table = record {
      births_long = refl;
      pairs_long = refl;
      within = λ i b has. let no : None ≡ Some b = sym (no_birth 15 i) ∙ has in absurd (cc);
      fenced = λ i b has. let no : None ≡ Some b = sym (no_birth 15 i) ∙ has in absurd (cc);
      lone = λ i none. no_pair 15 i;
    };
    fresh = none_fresh run (life.moments 0);
  }

  first : 0 < count → Knows 0 (life.states 1)
  first step =
      let starts : StartsOpening (life.states 0) life.generation (life.actions 0) (life.states 1) =
      subst (λ (ev : Event). IsVolumeStep (life.states 0) ev (life.actions 0) (life.states 1)) is.lives.opens (is.lives.steps 0 step) in
      ⊎_elim
      (λ no.
      let low : life.generation ≤ (life.states 0).generation = no.0 in
      let above : (life.states 0).generation < life.generation = is.lives.above in
      absurd (omega arith))
      (λ up.
      let right : AllRight run h e (λ s. ⊥) (Own life 0) (life.moments 0) (life.actions 0) =
      subst (λ (xs : List Action). AllRight run h e (λ s. ⊥) (Own life 0) (life.moments 0) xs) (sym up.1)
      (queries_each run h e (λ s. ⊥) (Own life 0) (life.moments 0) 0 (life.states 0).settings.nodes (Fence life.generation) is.names.generation) in
      let knows : Knows 0 (volume_of (life.states 0).settings life.generation (phase.Fencing (new_fencing life.generation))) = record {
        settings = refl;
        generation = refl;
        knows = fresh_table;
        sent = λ m within.
            let zeroth : 0 ≡ m = omega arith in
            subst (λ (x : ℕ). AllRight run h e (λ s. ⊥) (Own life x) (life.moments x) (life.actions x)) zeroth right;
      } in
      subst (λ (v : VolumeData). Knows 0 v) (sym up.2) knows)
      starts

  pub known : (n : ℕ) → n < count → Knows n (life.states (suc n))
  known zero step = first step
  known (suc n) step =
      by_event n step (life.states (suc n)) (life.states (suc (suc n))) (known n (omega arith)) refl refl (life.events (suc n)) refl
      (is.lives.heard n step) (is.lives.steps (suc n) step)

  -- what holds of an action of a step
  pub right_action : (n : ℕ) (a : Action) → n < count → Contains (life.actions n) a
      → RightAction run h e (Allowed (life.states (suc n)).phase) (Own life n) (life.moments n) a
  right_action n a within inside =
      let k : Knows n (life.states (suc n)) = known n within in
      let Q : SummaryData → Type 0 = Allowed (life.states (suc n)).phase in
      each (RightAction run h e Q (Own life n) (life.moments n)) (life.actions n) a (k.sent n (omega arith)) inside

  pub proposed : (n node generation birth t : ℕ) (cut : CutData) → n < count → Contains (life.actions n) (Ask node (request.Propose generation birth cut))
      → life.moments n ≤ t → IsOwnProposal run e t cut
  proposed n node generation birth t cut within inside order =
      proposal_later run e (life.moments n) t cut order (right_action n (Ask node (request.Propose generation birth cut)) within inside).1

  pub taken : (n node generation birth t : ℕ) (cut : CutData) → n < count
      → Contains (life.actions n) (Ask node (request.As generation birth (segment.Take (Cut cut)))) → life.moments n ≤ t → IsCutSent run t cut
  taken n node generation birth t cut within inside order =
      sent_later run (life.moments n) t cut order (right_action n (Ask node (request.As generation birth (segment.Take (Cut cut)))) within inside)

  opening_right : (Q : SummaryData → Type 0) (F : Fact → Type 0) (t : ℕ) (a : Action) (epoch point : ℕ) → RightAction run h e Q F t a → IsOpening a epoch point
      → HasOpenedAt run e t epoch point
  opening_right Q F t (Opened k p header) epoch point right is =
      subst (λ (x : ℕ). HasOpenedAt run e t epoch x) is.1 (subst (λ (x : ℕ). HasOpenedAt run e t x p) is.0 right)
  opening_right Q F t other epoch point right is = absurd is

  pub opened : (n epoch point t : ℕ) (a : Action) → n < count → Contains (life.actions n) a → IsOpening a epoch point → life.moments n ≤ t
      → HasOpenedAt run e t epoch point
  opened n epoch point t a within inside is_opening order =
      let Q : SummaryData → Type 0 = Allowed (life.states (suc n)).phase in
      opened_later run e (life.moments n) t epoch point order (opening_right Q (Own life n) (life.moments n) a epoch point (right_action n a within inside) is_opening)

pub admissions_keep_rules : AdmissionsKeepRules
admissions_keep_rules run h stop content guards e life count is n node t asked within inside order upto =
    admits_later run h stop content guards e (life.moments n) t node asked is.follows is.emitted is.guarded order upto
    (right_action run h stop content guards e life count is n (Ask node (request.Admit asked)) within inside)

-- what was right to send may be executed from then on
allowed : (run : VolumeRun) (h : History) (stop : ℕ) (content : ReplicaData → Content) (guards : Guards) (e s t node : ℕ) (Q : SummaryData → Type 0)
    (F : Fact → Type 0) (asked : Request) → FollowsUntil run stop → IsEmitted run h stop → HasGuards run h stop content guards → s ≤ t → t ≤ stop
    → Right run h e Q F s node asked → IsAllowed run t node (guards t node) asked
allowed run h stop content guards e s t node Q F (request.Fence generation) follows emitted guarded order upto right = (e, right)
allowed run h stop content guards e s t node Q F (request.Propose generation birth cut) follows emitted guarded order upto right =
    let own : IsOwnProposal run e t cut = proposal_later run e s t cut order right.1 in
    record { engine = e; generation_is = right.0; cut_is = own.0; may = own.1 }
allowed run h stop content guards e s t node Q F (request.Admit asked) follows emitted guarded order upto right =
    inr (admits_later run h stop content guards e s t node asked follows emitted guarded order upto right)
allowed run h stop content guards e s t node Q F asked follows emitted guarded order upto right = tt

pub requests_keep_rules : RequestsKeepRules
requests_keep_rules run h stop content guards e life count is n node t asked within inside order upto =
    allowed run h stop content guards e (life.moments n) t node (Allowed (life.states (suc n)).phase) (Own life n) asked is.follows is.emitted is.guarded order upto
    (right_action run h stop content guards e life count is n (Ask node asked) within inside)

pub takes_keep_rules : TakesKeepRules
takes_keep_rules run h stop content guards e life count is n node generation birth t cut within inside order =
    taken run h stop content guards e life count is n node generation birth t cut within inside order

pub openings_are_durable : OpeningsAreDurable
openings_are_durable run h stop content guards e life count is n epoch point t a within inside opening order =
    let at : HasOpenedAt run e t epoch point = opened run h stop content guards e life count is n epoch point t a within inside opening order in
    (at.0, inl at.1)

pub proposals_keep_rules : ProposalsKeepRules
proposals_keep_rules run h stop content guards e life count is n node generation birth t cut within inside order =
    proposed run h stop content guards e life count is n node generation birth t cut within inside order
