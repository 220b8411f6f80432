-- A step before a quorum is fenced.
use Rattle.std.proofs.Common.{◌≡◌, ℕ, suc, ◌-◌, ◌<◌, ◌≤◌, ⊎_elim, inl, List, [], Option, Some, IsTrue, refl, sym, ◌∙◌, subst, ap, arith}
use Rattle.replica.specs.Parts.{ReplicaData}
use Rattle.guard.specs.declared.requests.AcceptedCut.{AcceptedCut}
use Rattle.guard.specs.declared.replies.Reply.{Reply}
use Rattle.guard.specs.declared.replies.Reply.TheVariants as reply
use Rattle.volume.specs.declared.actions.Action.{Action}
use Rattle.volume.specs.declared.actions.Fault.TheVariants.{Fenced, NoQuorum}
use Rattle.volume.specs.declared.errands.Errand.TheVariants.{Pull}
use Rattle.volume.specs.declared.errands.Query.TheVariants.{Fence}
use Rattle.volume.specs.declared.events.Event.{Event}
use Rattle.volume.specs.declared.events.Event.TheVariants as event
use Rattle.volume.specs.declared.fencing.Fencing.{Fencing}
use Rattle.volume.specs.declared.phases.Opening.{Opening}
use Rattle.volume.specs.declared.phases.Phase.TheVariants as phase
use Rattle.volume.specs.declared.turns.Transition.{Transition}
use Rattle.volume.specs.declared.turns.Transition.TheVariants as turn
use Rattle.volume.specs.Asking.{query_to}
use Rattle.volume.specs.Fencing.{IsFencedQuorum, PullsQuorum, HearsFenced, HearsFencing, GoesOn, RetriesFencing, with_fenced, with_fresh, without_node}
use Rattle.volume.specs.Settings.{SettingsData}
use Rattle.volume.specs.Sets.{count_marked}
use Rattle.volume.specs.Turning.{Stays}
use Rattle.volume_theorems.specs.Nodes.{Content, VolumeNode}
use Rattle.volume_theorems.specs.Runs.{VolumeRun}
use Rattle.volume_guards.specs.Guards.{as_node}
use Rattle.volume_logs.specs.Histories.{History}
use Rattle.volume_engines.specs.Lives.{Life, Guards, WasGiven}
use Rattle.volume_engines.specs.Engines.{fenced_at, fenced_by, Gathers}
use Rattle.volume_engines.specs.Proposals.{IsLifeIn}
use Rattle.volume_engines.proofs.Sending.{AllRight, to_one, query_one}
use Rattle.volume_engines.proofs.Admissions.{WasOut, fresh_later, fresh_without, fresh_with}
use Rattle.volume_engines.proofs.Replies.{fenced_says, fresh_says}
use Rattle.volume_engines.proofs.Knowing.{Own, IsFencedAs, KnowsFencing, Allowed, LeavesTurn}
use Rattle.volume_engines.proofs.Turning.{when_stays, when_enters, when_stops}
use Rattle.volume_engines.proofs.Fencing.{fenced_here, fenced_elsewhere, fenced_otherwise, table_stays, table_without, table_with}
use Rattle.volume_engines.proofs.Gathering.{begins_knowing}

-- the turn goes on with this opening
abbrev pub EntersOpening : Transition → Opening → Type 0
EntersOpening (turn.Enter (phase.Opening p) actions) o = p ≡ o
EntersOpening other o = ⊥

module _ (run : VolumeRun) (h : History) (stop : ℕ) (content : ReplicaData → Content) (guards : Guards) (e : ℕ) (life : Life) (count : ℕ)
    (is : IsLifeIn run h stop content guards e life count) (n : ℕ) (step : suc n < count) (s : SettingsData) (most : s.nodes ≤ 15)
    (nodes : s.nodes ≡ run.roster) (quorum : s.quorum ≡ run.quorum) (readers : s.roster ≡ h.readers) where
  in_time : life.moments n ≤ life.moments (suc n)
  in_time = is.lives.in_time n step

  -- what the step leaves of the opening, whatever the turn
  abbrev Left : Fencing → Transition → Type 0
  Left f t = LeavesTurn run h guards e life (suc n) (phase.Fencing f) (phase.Fencing f) t

  abbrev SameMoments : Type 0
  SameMoments = (i : ℕ) → fenced_by life (suc (suc n)) i ≡ fenced_by life (suc n) i

  heard_at : (ev : Event) → life.events (suc n) ≡ ev → (i : ℕ)
      → fenced_by life (suc (suc n)) i ≡ fenced_at ev life.generation i (life.given (suc n)) (fenced_by life (suc n) i)
  heard_at ev at i = ap (λ (x : Event). fenced_at x life.generation i (life.given (suc n)) (fenced_by life (suc n) i)) at

  stays_known : (f : Fencing) → SameMoments → KnowsFencing run guards e life n f → KnowsFencing run guards e life (suc n) f
  stays_known f same k = record {
    generation = k.generation;
    table = table_stays run guards e life n in_time f.births f.pairs same k.table;
    fresh = fresh_later run (life.moments n) (life.moments (suc n)) f.fresh in_time k.fresh;
  }

  -- a node that answers that it is fresh was no member
  was_out : (node birth : ℕ) → WasGiven run guards e life (suc n) node (reply.Fresh birth) → WasOut run (life.moments (suc n)) node birth
  was_out node birth given =
      let p : ℕ = life.given (suc n) in
      let early : p < life.moments (suc n) = given.before in
      let late : life.moments (suc n) ≤ stop = is.upto (suc n) step in
      let says = fresh_says (guards p node) given.asked birth (guards (suc p) node) given.replies in
      let node_is : run.nodes p node ≡ as_node content (guards p node) = is.guarded.nodes p node (omega arith) in (
        p,
        early,
        λ member. says.0 (subst (λ (x : VolumeNode). IsTrue x.is_member) node_is member),
        ap (λ (x : VolumeNode). x.birth) node_is ∙ sym says.1,
      )

  nothing_heard : (f : Fencing) (t : Transition) → SameMoments → KnowsFencing run guards e life n f → Stays t [] → Left f t
  nothing_heard f t same k stays =
      when_stays run h guards e life (suc n) (phase.Fencing f) (phase.Fencing f) t [] stays
      (record { knows = stays_known f same k; right = tt; wider = λ x no. no })

  goes_on : (f g : Fencing) (t : Transition) (asked : List Action) → KnowsFencing run guards e life (suc n) g
      → AllRight run h e (Allowed (phase.Fencing g)) (Own life (suc n)) (life.moments (suc n)) asked → GoesOn s g t asked → Left f t
  goes_on f g t asked k right says = ⊎_elim
      (λ on. when_enters run h guards e life (suc n) (phase.Fencing f) (phase.Fencing f) t (phase.Fencing g) asked on.1
      (record { knows = k; right = right; wider = λ x no. no }))
      (λ off. when_stops run h guards e life (suc n) (phase.Fencing f) (phase.Fencing f) t (NoQuorum (s.nodes - count_marked g.lost) s.quorum) off.1)
      says

  pulls : (f new : Fencing) (node birth : ℕ) (t : Transition) → KnowsFencing run guards e life (suc n) new → IsFencedQuorum s new.births
      → ((o : Opening) → EntersOpening t o → Gathers life (suc n) o (run.engines e)) → PullsQuorum s new node birth t → Left f t
  pulls f new node birth (turn.Enter (phase.Opening o) actions) k enough names says =
      let asks : AllRight run h e (Allowed (phase.Opening o)) (Own life (suc n)) (life.moments (suc n)) actions.items =
      subst (λ (xs : List Action). AllRight run h e (Allowed (phase.Opening o)) (Own life (suc n)) (life.moments (suc n)) xs) (sym says.1)
      (to_one run h e (Allowed (phase.Opening o)) (Own life (suc n)) (life.moments (suc n)) node new.generation (is.names.generation ∙ sym k.generation) (Some birth) (Pull o.summary)
      (inl refl, let at : (run.engines e).gathered ≡ life.moments (suc n) = (names o refl).gathered in omega arith)) in
      record {
        knows = begins_knowing run h stop content guards e life (suc n) s new o is.follows.overlap is.guarded (is.upto (suc n) step) quorum readers
            k.generation k.table k.fresh enough says.0 (names o refl);
        right = asks;
        wider = λ x no. absurd no;
      }
  pulls f new node birth (turn.Enter phase.Idle actions) k enough names says = absurd says
  pulls f new node birth (turn.Enter (phase.Creating c) actions) k enough names says = absurd says
  pulls f new node birth (turn.Enter (phase.Fencing g) actions) k enough names says = absurd says
  pulls f new node birth (turn.Enter (phase.Open w) actions) k enough names says = absurd says
  pulls f new node birth (turn.Stay actions) k enough names says = absurd says
  pulls f new node birth (turn.End actions) k enough names says = absurd says

  hears_fenced : (f : Fencing) (node generation birth : ℕ) (accepted : Option AcceptedCut) (t : Transition) → node < s.nodes
      → life.events (suc n) ≡ event.Answered node (reply.Fenced generation birth accepted)
      → WasGiven run guards e life (suc n) node (reply.Fenced generation birth accepted) → KnowsFencing run guards e life n f
      → ((o : Opening) → EntersOpening t o → Gathers life (suc n) o (run.engines e)) → generation ≡ f.generation
      → HearsFenced s f node birth accepted t → Left f t
  hears_fenced f node generation birth accepted t inside at given k names own says =
      let p : ℕ = life.given (suc n) in
      let same : generation ≡ life.generation = own ∙ k.generation in
      let heard = heard_at (event.Answered node (reply.Fenced generation birth accepted)) at in
      let tells = fenced_says (guards p node) given.asked generation birth accepted (guards (suc p) node) given.replies in
      let answer : IsFencedAs run guards e (life.moments (suc n)) p node birth accepted = record {
        before = given.before;
        moved = given.moved;
        birth = sym tells.0;
        accepted = tells.1;
      } in
      let here : fenced_by life (suc (suc n)) node ≡ p =
      heard node ∙ fenced_here generation life.generation node node p (fenced_by life (suc n) node) same refl in
      let entry : IsFencedAs run guards e (life.moments (suc n)) (fenced_by life (suc (suc n)) node) node birth accepted =
      subst (λ (q : ℕ). IsFencedAs run guards e (life.moments (suc n)) q node birth accepted) (sym here) answer in
      let known : KnowsFencing run guards e life (suc n) (with_fenced f node birth accepted) = record {
        generation = k.generation;
        table = table_with run guards e life n in_time f.births f.pairs node (omega arith) k.table birth accepted (omega arith) entry
            (λ i apart. heard i ∙ fenced_elsewhere generation life.generation i node p (fenced_by life (suc n) i) apart);
        fresh = fresh_without run (life.moments (suc n)) node f.fresh (omega arith)
            (fresh_later run (life.moments n) (life.moments (suc n)) f.fresh in_time k.fresh);
      } in
      ⊎_elim
      (λ few. when_enters run h guards e life (suc n) (phase.Fencing f) (phase.Fencing f) t (phase.Fencing (with_fenced f node birth accepted)) [] few.1
      (record { knows = known; right = tt; wider = λ x no. no }))
      (λ enough. pulls f (with_fenced f node birth accepted) node birth t known enough.0 names enough.1)
      says

  pub hears_fencing : (f : Fencing) (node : ℕ) (told : Reply) (t : Transition) → node < s.nodes → life.events (suc n) ≡ event.Answered node told
      → WasGiven run guards e life (suc n) node told → KnowsFencing run guards e life n f
      → ((o : Opening) → EntersOpening t o → Gathers life (suc n) o (run.engines e)) → HearsFencing s f node told t → Left f t
  hears_fencing f node (reply.Fenced generation birth accepted) t inside at given k names says = ⊎_elim
      (λ own. hears_fenced f node generation birth accepted t inside at given k names own.0 own.1)
      (λ no. nothing_heard f t
      (λ i. heard_at (event.Answered node (reply.Fenced generation birth accepted)) at i
      ∙ fenced_otherwise generation life.generation i node (life.given (suc n)) (fenced_by life (suc n) i) (λ same. no.0 (same ∙ sym k.generation)))
      k no.1)
      says
  hears_fencing f node (reply.Fresh birth) t inside at given k names says =
      goes_on f (with_fresh f node birth) t []
      (record {
        generation = k.generation;
        table = table_without run guards e life n in_time f.births f.pairs node (omega arith) k.table (heard_at (event.Answered node (reply.Fresh birth)) at);
        fresh = fresh_with run (life.moments (suc n)) node f.fresh (omega arith)
            (fresh_later run (life.moments n) (life.moments (suc n)) f.fresh in_time k.fresh) birth (was_out node birth given);
      }) tt says
  hears_fencing f node (reply.Stale generation) t inside at given k names says =
      let same : SameMoments = heard_at (event.Answered node (reply.Stale generation)) at in
      ⊎_elim
      (λ up. when_stops run h guards e life (suc n) (phase.Fencing f) (phase.Fencing f) t (Fenced generation) up.1)
      (λ rest. ⊎_elim
      (λ lost. goes_on f (without_node f node) t [] (record { generation = k.generation; table = (stays_known f same k).table; fresh = (stays_known f same k).fresh }) tt lost.2)
      (λ idle. nothing_heard f t same k idle.1)
      rest)
      says
  hears_fencing f node other t inside at given k names says = nothing_heard f t (heard_at (event.Answered node other) at) k says

  pub retries_fencing : (f : Fencing) (node : ℕ) (t : Transition) → life.events (suc n) ≡ event.Failed node → KnowsFencing run guards e life n f
      → RetriesFencing s f node t → Left f t
  retries_fencing f node t at k says =
      let same : SameMoments = heard_at (event.Failed node) at in
      ⊎_elim
      (λ idle. nothing_heard f t same k idle.1)
      (λ lost. goes_on f (without_node f node) t (query_to (Fence f.generation) node)
      (record { generation = k.generation; table = (stays_known f same k).table; fresh = (stays_known f same k).fresh })
      (query_one run h e (Allowed (phase.Fencing (without_node f node))) (Own life (suc n)) (life.moments (suc n)) node (Fence f.generation) (is.names.generation ∙ sym k.generation)) lost.1)
      says
