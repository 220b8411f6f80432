-- What a machine plans comes in order: one step after another.
use Rattle.std.proofs.Common.{◌≡◌, ℕ, zero, suc, ◌<◌, ◌≤◌, ◌⊎◌, ⊎_elim, inl, inr, List, [], ◌∷◌, refl, sym, ◌∙◌, subst, ap, arith}
use Rattle.guard.specs.declared.replies.Reply.{Reply}
use Rattle.guard.specs.declared.replies.Reply.TheVariants as reply
use Rattle.replica.specs.declared.replies.Reply.{Reply as SegmentReply}
use Rattle.replica.specs.declared.replies.Reply.TheVariants as told
use Rattle.volume.specs.declared.actions.Action.{Action}
use Rattle.volume.specs.declared.actions.Action.TheVariants.{Durable}
use Rattle.volume.specs.declared.actions.Fault.TheVariants.{Fenced, NoQuorum}
use Rattle.volume.specs.declared.events.Event.{Event}
use Rattle.volume.specs.declared.events.Event.TheVariants as event
use Rattle.volume.specs.declared.fencing.Fencing.{Fencing}
use Rattle.volume.specs.declared.phases.Opening.{Opening}
use Rattle.volume.specs.declared.phases.Phase.{Phase}
use Rattle.volume.specs.declared.phases.Phase.TheVariants as phase
use Rattle.volume.specs.declared.phases.Stage.{Stage}
use Rattle.volume.specs.declared.phases.Writing.{Writing}
use Rattle.volume.specs.declared.plans.CutPlan.{CutPlan}
use Rattle.volume.specs.declared.turns.Transition.{Transition}
use Rattle.volume.specs.declared.turns.Transition.TheVariants as turn
use Rattle.volume.specs.Data.{VolumeData, volume_of, at_phase}
use Rattle.volume.specs.Fencing.{new_fencing, with_fenced, with_fresh, without_node, BeginsOpening, PullsQuorum, GoesOn, HearsFencing, RetriesFencing}
use Rattle.volume.specs.Settings.{SettingsData}
use Rattle.volume.specs.Stepping.{IsVolumeStep, StartsOpening, CallsOpen, Hears, Retries, Turns}
use Rattle.volume.specs.Turning.{Stays}
use Rattle.volume.specs.Writing.{HearsSegment, HearsWriting, WritesPage, EndsTransaction, RaisesPoint}
use Rattle.volume_theorems.specs.Runs.{VolumeRun}
use Rattle.volume_engines.specs.Lives.{Life, Guards, MayHappen, IsLife}
use Rattle.volume_engines.specs.Proposed.{ProposesAt, PlansInOrder}
use Rattle.volume_engines.proofs.Ordering.{Before, IsGathered, OrderedStage, OrderedOpening, OrderedPhase, OrderedTurn, phase_with, up_to, on_stay, on_enter, on_stop, orders_opening}

-- another opening is another life
abbrev IsWithin : ℕ → Event → Type 0
IsWithin own (event.Open generation) = generation ≤ own
IsWithin own other = Unit {0}

within : (run : VolumeRun) (guards : Guards) (e : ℕ) (life : Life) (n : ℕ) (ev : Event) → MayHappen run guards e life n ev → IsWithin life.generation ev
within run guards e life n (event.Open generation) may = may
within run guards e life n other may = tt

module _ (Past : Before) where
  -- ---- before a quorum is fenced
  begins : (s : SettingsData) (f : Fencing) (o : Opening) → ((p : CutPlan) → Past.proposed p → ⊥) → BeginsOpening s f o → OrderedOpening Past o
  begins s f o none says = record {
    cuts = λ e low high.
        let none : o.union.book.complete ≡ 0 = ap (λ u. u.book.complete) says.union in absurd (omega arith);
    at = subst (λ (st : Stage). OrderedStage Past o.union o.pair st) (sym says.stage) (λ p past. absurd (none p past));
  }

  module _ (s : SettingsData) (f : Fencing) (none : OrderedPhase Past (phase.Fencing f)) where
    abbrev Left : Transition → Type 0
    Left t = OrderedTurn Past (phase.Fencing f) t

    pulls : (new : Fencing) (node birth : ℕ) (t : Transition) → PullsQuorum s new node birth t → Left t
    pulls new node birth (turn.Enter (phase.Opening o) actions) says = begins s new o none.0 says.0
    pulls new node birth (turn.Enter phase.Idle actions) says = absurd says
    pulls new node birth (turn.Enter (phase.Creating c) actions) says = absurd says
    pulls new node birth (turn.Enter (phase.Fencing g) actions) says = absurd says
    pulls new node birth (turn.Enter (phase.Open w) actions) says = absurd says
    pulls new node birth (turn.Stay actions) says = absurd says
    pulls new node birth (turn.End actions) says = absurd says

    goes_on : (new : Fencing) (t : Transition) (asked : List Action) → GoesOn s new t asked → Left t
    goes_on new t asked says = ⊎_elim
        (λ on. on_enter Past (phase.Fencing f) t (phase.Fencing new) asked on.1 none)
        (λ off. on_stop Past (phase.Fencing f) t (NoQuorum _ s.quorum) off.1)
        says

    stays : (t : Transition) → Stays t [] → Left t
    stays t says = on_stay Past (phase.Fencing f) t [] says none

    orders_fencing : (node : ℕ) (shown : Reply) (t : Transition) → HearsFencing s f node shown t → Left t
    orders_fencing node (reply.Fenced generation birth accepted) t says = ⊎_elim
        (λ own. ⊎_elim
        (λ few. on_enter Past (phase.Fencing f) t (phase.Fencing (with_fenced f node birth accepted)) [] few.1 none)
        (λ enough. pulls (with_fenced f node birth accepted) node birth t enough.1)
        own.1)
        (λ no. stays t no.1)
        says
    orders_fencing node (reply.Fresh birth) t says = goes_on (with_fresh f node birth) t [] says
    orders_fencing node (reply.Stale generation) t says = ⊎_elim
        (λ up. on_stop Past (phase.Fencing f) t (Fenced generation) up.1)
        (λ rest. ⊎_elim
        (λ lost. goes_on (without_node f node) t [] lost.2)
        (λ idle. stays t idle.1)
        rest)
        says
    orders_fencing node other t says = stays t says

    retried_fencing : (node : ℕ) (t : Transition) → RetriesFencing s f node t → Left t
    retried_fencing node t says = ⊎_elim
        (λ idle. stays t idle.1)
        (λ lost. goes_on (without_node f node) t _ lost.1)
        says

  -- ---- an open volume
  module _ (quorum : ℕ) (old : Writing) where
    abbrev Writes : Writing → Transition → Type 0
    Writes new t = OrderedTurn Past (phase.Open new) t

    writes_on : (new : Writing) (t : Transition) (asked : List Action) → Stays t asked → Writes new t
    writes_on new t asked says = on_stay Past (phase.Open new) t asked says tt

    orders_segment : (node : ℕ) (shown : SegmentReply) (new : Writing) (t : Transition) → HearsSegment quorum old node shown new t → Writes new t
    orders_segment node (told.Front front) new t says = ⊎_elim
        (λ other. writes_on new t [] other.1)
        (λ own. ⊎_elim
        (λ only. writes_on new t [] only.5)
        (λ durable. writes_on new t (Durable durable.0 ∷ []) durable.6)
        own.1)
        says
    orders_segment node other new t says = writes_on new t [] says.0

    orders_late : (node generation birth : ℕ) (new : Writing) (t : Transition) → HearsWriting quorum old node (reply.Admitted generation birth) new t → Writes new t
    orders_late node generation birth new t says = ⊎_elim
        (λ no. writes_on new t [] no.1)
        (λ late. writes_on new t _ late.2)
        says

    orders_writing : (node : ℕ) (shown : Reply) (new : Writing) (t : Transition) → HearsWriting quorum old node shown new t → Writes new t
    orders_writing node (reply.Headed generation birth shown) new t says = ⊎_elim
        (λ own. orders_segment node shown new t own.1)
        (λ no. writes_on new t [] no.1)
        says
    orders_writing node (reply.Fenced generation birth accepted) new t says = orders_late node generation birth new t says
    orders_writing node (reply.Admitted generation birth) new t says = orders_late node generation birth new t says
    orders_writing node (reply.Stale generation) new t says = ⊎_elim
        (λ up. on_stop Past (phase.Open new) t (Fenced generation) up.1)
        (λ no. writes_on new t [] no.1)
        says
    orders_writing node other new t says = writes_on new t [] says.0

  -- ---- a step of the machine
  module _ (own : ℕ) (some : 0 < own) (old new : VolumeData) (actions : List Action) (under : old.generation ≡ own) (k : OrderedPhase Past old.phase) where
    abbrev Next : Type 0
    Next = (new.generation ≡ own) × OrderedPhase Past new.phase

    leads : (q : Phase) → new ≡ at_phase old q → OrderedPhase Past q → Next
    leads q is ordered = (ap (λ (v : VolumeData). v.generation) is ∙ under, subst (λ (v : VolumeData). OrderedPhase Past v.phase) (sym is) ordered)

    unchanged : new ≡ old → Next
    unchanged is = leads old.phase is k

    turned : (left : Phase) (t : Transition) → OrderedTurn Past left t → Turns old left t actions new → Next
    turned left (turn.Stay asked) ordered says = leads left says.1 ordered
    turned left (turn.Enter next asked) ordered says = leads next says.1 ordered
    turned left (turn.End asked) ordered says = leads phase.Idle says.1 tt

    knows : (p : Phase) → old.phase ≡ p → OrderedPhase Past p
    knows p from = subst (λ (x : Phase). OrderedPhase Past x) from k

    calls : (does : Writing → List Action → Writing → Type 0) (p : Phase) → CallsOpen does old p actions new → Next
    calls does (phase.Open w) says = leads (phase.Open says.0) says.2 tt
    calls does phase.Idle says = unchanged says.1
    calls does (phase.Creating c) says = unchanged says.1
    calls does (phase.Fencing f) says = unchanged says.1
    calls does (phase.Opening o) says = unchanged says.1

    hears : (p left : Phase) (t : Transition) (node : ℕ) (shown : Reply) → old.phase ≡ p → Hears old.settings p node shown left t → Turns old left t actions new → Next
    hears phase.Idle left t node shown from says turns =
        turned left t (subst (λ (q : Phase). OrderedTurn Past q t) (sym says.1) (on_stay Past phase.Idle t [] says.0 tt)) turns
    hears (phase.Creating c) left t node shown from says turns = absurd (knows (phase.Creating c) from)
    hears (phase.Fencing f) left t node shown from says turns =
        turned left t
        (subst (λ (q : Phase). OrderedTurn Past q t) (sym says.1) (orders_fencing old.settings f (knows (phase.Fencing f) from) node shown t says.0)) turns
    hears (phase.Opening o) (phase.Opening p) t node shown from says turns =
        turned (phase.Opening p) t (orders_opening Past old.settings.quorum o (knows (phase.Opening o) from) node shown p t says) turns
    hears (phase.Opening o) phase.Idle t node shown from says turns = absurd says
    hears (phase.Opening o) (phase.Creating c) t node shown from says turns = absurd says
    hears (phase.Opening o) (phase.Fencing f) t node shown from says turns = absurd says
    hears (phase.Opening o) (phase.Open w) t node shown from says turns = absurd says
    hears (phase.Open w) (phase.Open x) t node shown from says turns =
        turned (phase.Open x) t (orders_writing old.settings.quorum w node shown x t says) turns
    hears (phase.Open w) phase.Idle t node shown from says turns = absurd says
    hears (phase.Open w) (phase.Creating c) t node shown from says turns = absurd says
    hears (phase.Open w) (phase.Fencing f) t node shown from says turns = absurd says
    hears (phase.Open w) (phase.Opening o) t node shown from says turns = absurd says

    retries : (p : Phase) (t : Transition) (node : ℕ) → old.phase ≡ p → Retries old.settings p node t → Turns old p t actions new → Next
    retries phase.Idle t node from says turns = turned phase.Idle t (on_stay Past phase.Idle t [] says tt) turns
    retries (phase.Creating c) t node from says turns = absurd (knows (phase.Creating c) from)
    retries (phase.Fencing f) t node from says turns =
        turned (phase.Fencing f) t (retried_fencing old.settings f (knows (phase.Fencing f) from) node t says) turns
    retries (phase.Opening o) t node from says turns =
        turned (phase.Opening o) t (on_stay Past (phase.Opening o) t _ says (knows (phase.Opening o) from)) turns
    retries (phase.Open w) t node from says turns = turned (phase.Open w) t (on_stay Past (phase.Open w) t _ says tt) turns

    orders_step : (ev : Event) → IsWithin own ev → IsVolumeStep old ev actions new → Next
    orders_step event.Create may says = ⊎_elim
        (λ no. unchanged no.1.1)
        (λ first. let none : old.generation ≡ 0 = first.0 in absurd (omega arith))
        says
    orders_step (event.Open generation) may says = ⊎_elim
        (λ no. unchanged no.1.1)
        (λ up. let more : old.generation < generation = up.0 in let upto : generation ≤ own = may in absurd (omega arith))
        says
    orders_step (event.Write page init patches) may says = calls (λ w asked after. WritesPage w page init patches.items asked after) old.phase says
    orders_step (event.Commit header) may says = calls (λ w asked after. EndsTransaction w header.items asked after) old.phase says
    orders_step (event.Advance reader point) may says = calls (λ w asked after. RaisesPoint w reader point asked after) old.phase says
    orders_step (event.Answered node shown) may says = ⊎_elim
        (λ out. unchanged out.2)
        (λ inside. hears old.phase inside.1.0 inside.1.1 node shown refl inside.1.2 inside.1.3)
        says
    orders_step (event.Failed node) may says = ⊎_elim
        (λ out. unchanged out.2)
        (λ inside. retries old.phase inside.1.0 node refl inside.1.1 inside.1.2)
        says

-- ---- all steps
-- a step that is among the first n, or the next one
one_of : (P : ℕ → Type 0) (n : ℕ) → ((m : ℕ) × (m < suc n) × P m) → ((m : ℕ) × (m < n) × P m) ⊎ P n
one_of P n past = ⊎_elim
    (λ (now : past.0 ≡ n). inr (subst P now past.2))
    (λ (early : past.0 < n). inl (past.0, early, past.2))
    (let m : ℕ = past.0 in let low : m < suc n = past.1 in let way : (m ≡ n) ⊎ (m < n) = grind (arith, low) in way)

module _ (run : VolumeRun) (guards : Guards) (e : ℕ) (life : Life) (count : ℕ) (is : IsLife run guards e life count) where
  -- what the first steps have proposed and gathered
  abbrev PastOf : ℕ → Before
  PastOf n = record {
    proposed = λ p. (m : ℕ) × (m < n) × ProposesAt life m p;
    gathered = (m : ℕ) × (m < n) × IsGathered (life.states (suc m)).phase;
  }

  some : 0 < life.generation
  some = let above : (life.states 0).generation < life.generation = is.above in omega arith

  abbrev After : ℕ → ℕ → Type 0
  After past n = ((life.states (suc n)).generation ≡ life.generation) × OrderedPhase (PastOf past) (life.states (suc n)).phase

  with_step : (n : ℕ) → After n n → After (suc n) n
  with_step n k = (
    k.0,
    phase_with (PastOf n) (PastOf (suc n)) (life.states (suc n)).phase (λ p past. one_of (λ m. ProposesAt life m p) n past)
        (λ past. one_of (λ m. IsGathered (life.states (suc m)).phase) n past) k.1,
  )

  first : 0 < count → After 0 0
  first step =
      let starts : StartsOpening (life.states 0) life.generation (life.actions 0) (life.states 1) =
      subst (λ (ev : Event). IsVolumeStep (life.states 0) ev (life.actions 0) (life.states 1)) is.opens (is.steps 0 step) in
      ⊎_elim
      (λ no.
      let low : life.generation ≤ (life.states 0).generation = no.0 in
      let above : (life.states 0).generation < life.generation = is.above in
      absurd (omega arith))
      (λ up.
      let begun : VolumeData = volume_of (life.states 0).settings life.generation (phase.Fencing (new_fencing life.generation)) in
      subst (λ (v : VolumeData). (v.generation ≡ life.generation) × OrderedPhase (PastOf 0) v.phase) (sym up.2) (
        refl,
        (
          λ p past. let m : ℕ = past.0 in let low : m < 0 = past.1 in absurd (omega arith),
          λ past. let m : ℕ = past.0 in let low : m < 0 = past.1 in absurd (omega arith),
        ),
      ))
      starts

  ordered : (n : ℕ) → n < count → After (suc n) n
  ordered zero step = with_step zero (first step)
  ordered (suc n) step =
      let before : After (suc n) n = ordered n (omega arith) in
      with_step (suc n)
      (orders_step (PastOf (suc n)) life.generation some (life.states (suc n)) (life.states (suc (suc n))) (life.actions (suc n)) before.0 before.1
      (life.events (suc n)) (within run guards e life (suc n) (life.events (suc n)) (is.heard n step)) (is.steps (suc n) step))

  -- before a quorum is gathered, none was
  fences : (n : ℕ) (f : Fencing) → n < count → (life.states (suc n)).phase ≡ phase.Fencing f → (PastOf (suc n)).gathered → ⊥
  fences n f step at past = (subst (λ (ph : Phase). OrderedPhase (PastOf (suc n)) ph) at (ordered n step).1).1 past

  -- a step gathers a quorum
  abbrev pub HasGatheredAt : ℕ → Type 0
  HasGatheredAt n = ((f : Fencing) × ((life.states n).phase ≡ phase.Fencing f)) × ((o : Opening) × ((life.states (suc n)).phase ≡ phase.Opening o))

  not_twice : (m n : ℕ) → m < n → n < count → HasGatheredAt m → HasGatheredAt n → ⊥
  not_twice m zero early step one two = absurd (omega arith)
  not_twice m (suc n) early step one two =
      fences n two.0.0 (omega arith) two.0.1
      (m, early, subst (λ (ph : Phase). IsGathered ph) (sym one.1.1) tt)

  pub gathered_once : (m n : ℕ) → m < count → n < count → HasGatheredAt m → HasGatheredAt n → m ≡ n
  gathered_once m n low step one two = ⊎_elim
      (λ (early : m < n). absurd (not_twice m n early step one two))
      (λ rest. ⊎_elim
      (λ (late : n < m). absurd (not_twice n m late low two one))
      (λ (same : m ≡ n). same)
      rest)
      (let way : (m < n) ⊎ ((n < m) ⊎ (m ≡ n)) = grind arith in way)

pub plans_in_order : PlansInOrder
plans_in_order run guards e life count is m n old plan early step was now =
    up_to (PastOf run guards e life count is (suc n)) (life.states (suc n)).phase plan (ordered run guards e life count is n step).1 now old
    (m, omega arith, was)
