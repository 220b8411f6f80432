-- What the union of an opening has when the volume is open: facts of the epochs below, and the truncation with which it opens.
use Rattle.std.proofs.Common.{◌≡◌, ℕ, zero, suc, ◌+◌, ◌<◌, ◌≤◌, ◌⊎◌, ⊎_elim, inl, inr, List, [], ◌∷◌, ◌++◌, Bool, true, false, sym, ◌∙◌, subst, ap, arith}
use Rattle.std.specs.List.{Contains}
use Rattle.std.proofs.lemmas.List.Elements.{Contains-append_left, Contains-append_right, Contains-push_cases}
use Rattle.redo_core.specs.Data.{RecordData, CutData}
use Rattle.redo_core.specs.Sets.{IsPart, records, cuts}
use Rattle.redo_core.specs.CompleteEpoch.{HasCutsTo, HasCut}
use Rattle.redo_core.specs.Sound.{IsSound}
use Rattle.redo_core.specs.declared.facts.Fact.{Fact}
use Rattle.redo_core.specs.declared.facts.Fact.TheVariants.{Record, Cut}
use Rattle.redo_core.proofs.CompleteEpochs.{has_cuts, one_complete_epoch}
use Rattle.redo_core.proofs.FactParts.{cut_in, part_records, part_cuts}
use Rattle.redo_core.proofs.Members.{none_in, here}
use Rattle.log_theorems.proofs.Log.{log_of_sound}
use Rattle.segment_theorems.specs.State.{State}
use Rattle.segment_theorems.specs.Means.{Means}
use Rattle.replica.specs.Parts.{ReplicaData}
use Rattle.guard.specs.declared.replies.Reply.{Reply}
use Rattle.guard.specs.declared.replies.Reply.TheVariants as reply
use Rattle.volume.specs.declared.events.Event.{Event}
use Rattle.volume.specs.declared.events.Event.TheVariants as event
use Rattle.volume.specs.declared.phases.Opening.{Opening}
use Rattle.volume.specs.declared.phases.Phase.{Phase}
use Rattle.volume.specs.declared.phases.Phase.TheVariants as phase
use Rattle.volume.specs.declared.phases.Stage.TheVariants as stage
use Rattle.volume.specs.declared.phases.Writing.{Writing}
use Rattle.volume.specs.declared.plans.CutPlan.{CutPlan}
use Rattle.volume.specs.declared.turns.Transition.{Transition}
use Rattle.volume.specs.Data.{VolumeData}
use Rattle.volume.specs.Fencing.{new_fencing}
use Rattle.volume.specs.Opening.{TakesPlan}
use Rattle.volume.specs.Resuming.{IsResumed, BeginsWriting}
use Rattle.volume.specs.Stepping.{Hears}
use Rattle.volume_theorems.specs.Nodes.{Content, GrowsTo}
use Rattle.volume_theorems.specs.Runs.{VolumeRun, MakesMove, Many}
use Rattle.volume_theorems.specs.Runs.Move.{Accepts}
use Rattle.volume_theorems.specs.Opening.{IsCutSent}
use Rattle.volume_theorems.specs.Contents.{IsCommitPoint}
use Rattle.volume_theorems.specs.Stopping.{FollowsUntil}
use Rattle.volume_theorems.proofs.ByMoment.{one_sent_by}
use Rattle.volume_theorems.proofs.Contents.{parts_grow}
use Rattle.volume_theorems.proofs.OpeningFirst.{none_overtakes}
use Rattle.volume_logs.specs.Histories.{History, log_to, log_at}
use Rattle.volume_logs.specs.Emitting.{LacksAdvances, GoesOn}
use Rattle.volume_logs.specs.PageLayout.{LeavesNumber}
use Rattle.volume_logs.proofs.Epochs.{IsOf, epoch_in, in_epoch, log_upto, log_later, at_later, record_epoch}
use Rattle.volume_logs.proofs.Moments.{until_earlier}
use Rattle.volume_logs.proofs.Sound.{log_is_sound}
use Rattle.volume_engines.specs.Lives.{Life, Guards}
use Rattle.volume_engines.specs.Proposals.{IsLifeIn}
use Rattle.volume_engines.specs.Emissions.{HasEmissions}
use Rattle.volume_engines.specs.Resuming.{OpensAt, OpeningsGoOn}
use Rattle.volume_engines.proofs.Contents.{content_exists}
use Rattle.volume_engines.proofs.Named.{NamesPlan}
use Rattle.volume_engines.proofs.Knowing.{KnowsStage, KnowsOpening, KnowsPhase}
use Rattle.volume_engines.proofs.Later.{means_later}
use Rattle.volume_engines.proofs.Unions.{IsLast, own_last, points_within}
use Rattle.volume_engines.proofs.Steps.{known}
use Rattle.volume_engines.proofs.Emissions.{emitted_written}
use Rattle.volume_engines.proofs.Reporting.{first_phase, refused, the_step}
use Rattle.volume_engines.proofs.Emitting.{none_before}
use Rattle.volume_engines.proofs.Resuming.{IsUnionBelow, union_goes_on}
use Rattle.volume_engines.proofs.Settling.{CutOf, VoteOf, LeavesIn, LeavesAfter, none_proposed, hears_settling, retries_settling}
use Rattle.volume_engines.proofs.Settled.{MayHear, shut_step, IsSettled, HasVoted, SettledStage, rise, settled}

module _ (run : VolumeRun) (h : History) (stop : ℕ) (content : ReplicaData → Content) (guards : Guards) (e : ℕ) (life : Life) (count : ℕ)
    (is : IsLifeIn run h stop content guards e life count) where
  -- ---- the step that opens the volume
  -- it takes a plan of its own that was accepted, and begins with what its union then has
  record OpensWith (o : Opening) (w : Writing) : Type 0 where
    plan : CutPlan
    reported : List Bool
    union : State
    at : o.stage ≡ stage.Taking plan reported
    own : plan.is_pending ≡ false
    taken : TakesPlan o.union plan.cut union
    begins : BeginsWriting o.session union plan.cut w

  opens_with : (j : ℕ) (o : Opening) (w : Writing) → suc j < count → (life.states (suc j)).phase ≡ phase.Opening o → (life.states (suc (suc j))).phase ≡ phase.Open w
      → OpensWith o w
  opens_with j o w step at to =
      let quorum : ℕ = (life.states (suc j)).settings.quorum in
      let left : LeavesIn (Unit {0}) (λ u st. Unit {0}) (OpensWith o) (life.states (suc (suc j))).phase (life.actions (suc j)) =
      shut_step (Unit {0}) (λ u st. Unit {0}) (OpensWith o) (λ node shown. Unit {0})
      (life.states (suc j)) (life.states (suc (suc j))) (life.actions (suc j)) (phase.Opening o) at tt
      (λ all. (tt, none_proposed (CutOf o.stage) (life.actions (suc j)) all))
      (λ node shown left t inside may says. hears_with node shown left t says)
      (λ node t says.
      retries_settling (Unit {0}) (λ u st. Unit {0}) (OpensWith o) (λ k. Unit {0}) quorum node o tt (λ u st seek on. tt) (λ plan known same. tt)
      (λ plan accepted same v. tt) (λ plan accepted same v enough. tt) (λ plan reported more same. tt)
      (λ plan reported u x same own taken starts.
      record { plan = plan; reported = reported; union = u; at = same; own = own; taken = taken; begins = starts }) t says)
      (life.events (suc j)) (refused run h stop content guards e life count is j step (life.events (suc j)) (is.lives.heard j step))
      (may_hear (life.events (suc j))) (the_step run h stop content guards e life count is j step) in
      subst (λ (p : Phase). LeavesIn (Unit {0}) (λ u st. Unit {0}) (OpensWith o) p (life.actions (suc j))) to left
    where
      any_vote : (shown : Reply) → VoteOf (λ k. Unit {0}) shown
      any_vote (reply.Accepted generation birth epoch) = tt
      any_vote other = tt

      may_hear : (happens : Event) → MayHear (λ node shown. Unit {0}) happens
      may_hear (event.Answered node shown) = tt
      may_hear other = tt

      hears_with : (node : ℕ) (shown : Reply) (left : Phase) (t : Transition) → Hears (life.states (suc j)).settings (phase.Opening o) node shown left t
          → LeavesAfter (Unit {0}) (λ u st. Unit {0}) (OpensWith o) left t
      hears_with node shown (phase.Opening p) t says =
          hears_settling (Unit {0}) (λ u st. Unit {0}) (OpensWith o) (λ k. Unit {0}) (life.states (suc j)).settings.quorum node o tt (λ u st seek on. tt)
          (λ plan known same. tt) (λ plan accepted same v. tt) (λ plan accepted same v enough. tt) (λ plan reported more same. tt)
          (λ plan reported u x same own taken starts.
          record { plan = plan; reported = reported; union = u; at = same; own = own; taken = taken; begins = starts }) shown p t (any_vote shown) says
      hears_with node shown phase.Idle t says = absurd says
      hears_with node shown (phase.Creating c) t says = absurd says
      hears_with node shown (phase.Fencing f) t says = absurd says
      hears_with node shown (phase.Open x) t says = absurd says

  -- ---- what its union has
  module _ (j k : ℕ) (step : suc j < count) (o : Opening) (w : Writing) (at : (life.states (suc j)).phase ≡ phase.Opening o) (x : OpensWith o w)
      (epoch : x.plan.cut.epoch ≡ suc k) (first : ℕ) (s : IsSettled run h stop content guards e life count is j first o.union x.plan)
      (votes : Many run (HasVoted run h stop content guards e life count is j first x.plan)) (has : HasEmissions h life count stop (suc k)) where
    abbrev T : ℕ
    T = life.moments (suc j)

    abbrev U : ℕ
    U = life.moments first

    abbrev Cut_of : CutData
    Cut_of = x.plan.cut

    upto : T ≤ stop
    upto = is.upto (suc j) step

    until : FollowsUntil run T
    until = until_earlier run T stop upto is.follows

    low : first < count
    low = let below : first ≤ j = s.upto in omega arith

    early : U ≤ T
    early =
        let below : first ≤ j = s.upto in
        rise run h stop content guards e life count is first (suc j) (omega arith) step

    opening : KnowsOpening run h guards e life (life.moments j) o
    opening =
        subst (λ (p : Phase). KnowsPhase run h guards e life j p) at (known run h stop content guards e life count is j (omega arith)).knows

    taking : KnowsStage run h e (life.moments j) o.union o.pair (stage.Taking x.plan x.reported)
    taking = subst (KnowsStage run h e (life.moments j) o.union o.pair) x.at opening.at

    named : NamesPlan x.plan (run.engines e)
    named = taking.3

    cut_named : (run.engines e).cuts (suc k) ≡ Cut_of
    cut_named = ap (λ (n : ℕ). (run.engines e).cuts n) (sym epoch) ∙ named.cut

    opens : (run.engines e).opens ≡ suc k
    opens = named.own x.own ∙ epoch

    -- ---- the truncation
    accepted : Many run (λ i. (m : ℕ) × (U ≤ m) × (m < T) × MakesMove run m i (Accepts e (suc k)))
    accepted = (
      votes.0,
      votes.1,
      λ i among.
          let v = votes.2 i among in
          let before : v.0 < life.moments j = v.2 in
          let next : life.moments j ≤ T = is.lives.in_time j step in
          (v.0, v.1, omega arith, subst (λ (n : ℕ). MakesMove run v.0 i (Accepts e n)) epoch v.3),
    )

    sent : IsCutSent run T Cut_of
    sent = (
      e,
      named.cut,
      (
        accepted.0,
        accepted.1,
        λ i among. let v = accepted.2 i among in (v.0, v.2, subst (λ (n : ℕ). MakesMove run v.0 i (Accepts e n)) (sym epoch) v.3),
      ),
    )

    newest : suc k ≤ h.newest T
    newest = let within : Cut_of.epoch ≤ h.newest T = is.emitted.newest T Cut_of upto sent in omega arith

    same_cut : h.cuts (suc k) ≡ Cut_of
    same_cut =
        one_sent_by run T (h.cuts (suc k)) Cut_of until (is.emitted.sent T (suc k) upto (omega arith) newest) sent
        (is.emitted.epochs (suc k) ∙ sym epoch)

    -- ---- the facts that the quorum had
    abbrev Facts : List Fact
    Facts = s.union.facts

    nothing : h.written U (suc k) ≡ []
    nothing =
        emitted_written h life count stop (suc k) first has low (is.upto first low)
        ∙ none_before run h stop content guards e life count is (suc j) first o (let below : first ≤ j = s.upto in omega arith) step at

    abbrev IsBelow : Fact → Type 0
    IsBelow f = Contains (log_to h T k) f ⊎ (Cut (h.cuts (suc k)) ≡ f)

    -- a fact of a later epoch would be of one that has overtaken this engine
    at_top : (i : ℕ) (f : Fact) → k ≤ i → i < h.newest U → IsOf h U i f → IsBelow f
    at_top i f high within of =
        let sent_at : IsCutSent run U (h.cuts (suc i)) = is.emitted.sent U (suc i) (is.upto first low) (omega arith) (omega arith) in
        let at_i : (h.cuts (suc i)).epoch ≡ suc i = is.emitted.epochs (suc i) in
        let same : h.cuts (suc i) ≡ (run.engines e).cuts (suc k) =
        none_overtakes run e (suc k) U T (h.cuts (suc i)) until early opens accepted sent_at (omega arith) in
        let epochs : (h.cuts (suc i)).epoch ≡ Cut_of.epoch = ap (λ (c : CutData). c.epoch) (same ∙ cut_named) in
        let one : i ≡ k = omega arith in
        let own : IsOf h U k f = subst (λ (n : ℕ). IsOf h U n f) one of in
        ⊎_elim
        (λ (cut : Cut (h.cuts (suc k)) ≡ f). inr cut)
        (λ (fact : Contains (h.written U (suc k)) f). absurd (none_in f (subst (λ (fs : List Fact). Contains fs f) nothing fact)))
        own

    below : (f : Fact) → Contains Facts f → IsBelow f
    below f inside =
        let y = epoch_in h U (h.newest U) f (s.union.means.1.part f inside) in
        let i : ℕ = y.0 in
        let within : i < h.newest U = y.1 in
        ⊎_elim
        (λ (under : i < k). inl (log_later run h stop is.emitted U T k early upto f (in_epoch h U k i f under y.2)))
        (λ (high : k ≤ i). at_top i f high within y.2)
        (let way : (i < k) ⊎ (k ≤ i) = grind arith in way)

    -- ---- with the truncation
    abbrev More : List Fact
    More = Facts ++ Cut Cut_of ∷ []

    below_more : (f : Fact) → Contains More f → IsBelow f
    below_more f inside = ⊎_elim
        (λ (old : Contains Facts f). below f old)
        (λ (new : Cut Cut_of ≡ f). inr (ap (λ (c : CutData). Cut c) same_cut ∙ new))
        (Contains-push_cases Facts (Cut Cut_of) f inside)

    inner : IsPart More (log_to h T k ++ Cut (h.cuts (suc k)) ∷ [])
    inner f inside = ⊎_elim
        (λ (old : Contains (log_to h T k) f). Contains-append_left (log_to h T k) (Cut (h.cuts (suc k)) ∷ []) f old)
        (λ (cut : Cut (h.cuts (suc k)) ≡ f).
        Contains-append_right (log_to h T k) (Cut (h.cuts (suc k)) ∷ []) f
        (subst (λ (g : Fact). Contains (Cut (h.cuts (suc k)) ∷ []) g) cut (here (Cut (h.cuts (suc k))) [])))
        (below_more f inside)

    -- its truncations are of epochs up to this one
    cut_upto : (c : CutData) → Contains (cuts More) c → k < c.epoch → c ≡ Cut_of
    cut_upto c inside over = ⊎_elim
        (λ (old : Contains (log_to h T k) (Cut c)).
        let under : c.epoch ≤ k = log_upto run h stop is.emitted T k upto (Cut c) old in absurd (omega arith))
        (λ (same : Cut (h.cuts (suc k)) ≡ Cut c). let itself : h.cuts (suc k) ≡ c = cc in sym itself ∙ same_cut)
        (below_more (Cut c) ((cut_in More c).0 inside))

    sound : IsSound h.readers (log_at h T)
    sound = log_is_sound run h stop T is.follows is.emitted upto

    cut_inside : Contains (log_at h T) (Cut Cut_of)
    cut_inside = in_epoch h T (h.newest T) k (Cut Cut_of) (omega (arith, newest)) (inl (ap (λ (c : CutData). Cut c) same_cut))

    had : Means h.readers (log_at h T) Facts o.union
    had = means_later h.readers (log_at h U) (log_at h T) Facts o.union (at_later run h stop is.emitted U T early upto) s.union.means

    means : Means h.readers (log_at h T) More x.union
    means = x.taken.means h.readers (log_at h T) Facts sound cut_inside had

    -- ---- its position
    epoch_had : had.0.epoch ≡ k
    epoch_had =
        let one : o.union.book.complete ≡ had.0.epoch = had.1.epoch in
        let two : s.cut.front.epoch ≡ o.union.book.complete = s.cut.own.epoch in
        let three : Cut_of.epoch ≡ s.cut.front.epoch + 1 = s.cut.epoch in
        omega arith

    grown : IsPart Facts More
    grown f inside = Contains-append_left Facts (Cut Cut_of ∷ []) f inside

    has_to : HasCutsTo (cuts More) (suc k)
    has_to n some upto_n = ⊎_elim
        (λ (last : n ≡ suc k). (
          Cut_of,
          (cut_in More Cut_of).1 (Contains-append_right Facts (Cut Cut_of ∷ []) (Cut Cut_of) (here (Cut Cut_of) [])),
          epoch ∙ sym last,
        ))
        (λ (under : n ≤ k).
        let at_k : had.0.epoch ≡ k = epoch_had in
        let before : HasCut (cuts Facts) n = has_cuts (cuts Facts) had.0.epoch had.1.position.epoch n some (omega arith) in
        (before.0, part_cuts Facts More grown before.0 before.1, before.2))
        (let way : (n ≡ suc k) ⊎ (n ≤ k) = grind (arith, upto_n) in way)

    epoch_is : means.0.epoch ≡ suc k
    epoch_is =
        let n : ℕ = means.0.epoch in
        let at_least : suc k ≤ n = means.1.position.epoch.1 (suc k) has_to in
        let at_most : n ≤ suc k = ⊎_elim
        (λ (over : suc (suc k) ≤ n).
        let c = has_cuts (cuts More) n means.1.position.epoch (suc (suc k)) (omega arith) over in
        let at_c : c.0.epoch ≡ suc (suc k) = c.2 in
        let same : c.0.epoch ≡ Cut_of.epoch = ap (λ (d : CutData). d.epoch) (cut_upto c.0 c.1 (omega arith)) in
        absurd (omega arith))
        (λ (within : n ≤ suc k). within)
        (let way : (suc (suc k) ≤ n) ⊎ (n ≤ suc k) = grind arith in way) in
        omega arith

    leaves : (r : RecordData) → Contains (log_at h T) (Record r) → LeavesNumber r
    leaves r inside =
        let y = record_epoch run h stop is.emitted T (h.newest T) r upto inside in
        (is.emitted.writers T y.0 (Record r) upto y.3).1.leaves r y.3

    last : IsLast Facts had.0.epoch Cut_of
    last = own_last h.readers (log_at h T) Facts had.0 o.union Cut_of sound had.1 s.cut leaves

    -- what the truncation keeps is still linked
    reached : (h.cuts (suc k)).lo ≤ means.0.complete
    reached =
        let backs : (fs : List Fact) → IsPart fs (log_at h T) → (r : RecordData) → Contains (records fs) r → r.back < r.number = λ fs part r inside.
        ((log_of_sound h.readers (log_at h T) sound).backs r (part_records fs (log_at h T) part r inside)).1 in
        let a = content_exists Facts (backs Facts had.1.part) in
        let b = content_exists More (backs More means.1.part) in
        let grows : GrowsTo a.0 b.0 = parts_grow h.readers (log_at h T) Facts More a.0 b.0 sound grown means.1.part a.1 b.1 in
        let one : a.0.epoch ≡ had.0.epoch = one_complete_epoch (cuts Facts) a.0.epoch had.0.epoch a.1.epoch had.1.position.epoch in
        let two : b.0.epoch ≡ means.0.epoch = one_complete_epoch (cuts More) b.0.epoch means.0.epoch b.1.epoch means.1.position.epoch in
        let at_k : had.0.epoch ≡ k = epoch_had in
        let kept : Contains b.0.points Cut_of.lo =
        grows.points Cut_of.lo ((a.1.points Cut_of.lo).1 (subst (λ (n : ℕ). IsCommitPoint Facts n Cut_of.lo) (sym one) last.point))
        (λ c inside over within.
        let same : c.lo ≡ Cut_of.lo = ap (λ (d : CutData). d.lo) (cut_upto c ((b.1.cuts c).0 inside) (omega arith)) in
        omega arith) in
        let point : IsCommitPoint More means.0.epoch Cut_of.lo = subst (λ (n : ℕ). IsCommitPoint More n Cut_of.lo) two ((b.1.points Cut_of.lo).0 kept) in
        let under : Cut_of.lo ≤ means.0.complete = points_within h.readers More means.0 Cut_of.lo means.1.position point in
        subst (λ (c : CutData). c.lo ≤ means.0.complete) (sym same_cut) under

    union_below : IsUnionBelow h T k x.union
    union_below = record { facts = More; inner = inner; position = means.0; means = means.1; epoch = epoch_is; reached = reached }

    goes_on : (base : List Fact) × LacksAdvances base (log_to h T k) × GoesOn h.readers w.writer base (h.cuts (suc k))
    goes_on =
        union_goes_on run h stop T k x.union w.writer is.follows is.emitted upto newest union_below
        (subst (λ (c : CutData). IsResumed x.union c w.writer) (sym same_cut) x.begins.writer)

  -- ---- all together
  below_from : (j k : ℕ) (step : suc j < count) (o : Opening) (w : Writing) → (life.states (suc j)).phase ≡ phase.Opening o → w.cut.epoch ≡ suc k
      → OpensWith o w → HasEmissions h life count stop (suc k)
      → (base : List Fact) × LacksAdvances base (log_to h (life.moments (suc j)) k) × GoesOn h.readers w.writer base (h.cuts (suc k))
  below_from j k step o w at epoch x has =
      let settles : SettledStage run h stop content guards e life count is j o.union (stage.Taking x.plan x.reported) =
      subst (SettledStage run h stop content guards e life count is j o.union) x.at (settled run h stop content guards e life count is j o (omega arith) at) in
      ⊎_elim
      (λ pending. let no : true ≡ false = sym pending.0 ∙ x.own in absurd (cc))
      (λ own. goes_on j k step o w at x (ap (λ (c : CutData). c.epoch) (sym x.begins.cut_is) ∙ epoch) own.0 own.1 own.2 has)
      settles

  pub opens_from : (n k : ℕ) → n < count → (at : OpensAt life n k) → HasEmissions h life count stop (suc k)
      → (base : List Fact) × LacksAdvances base (log_to h (life.moments n) k) × GoesOn h.readers at.writing.writer base (h.cuts (suc k))
  opens_from zero k step at has =
      let y = first_phase run h stop content guards e life count is step in
      let no : phase.Fencing (new_fencing life.generation) ≡ phase.Open at.writing = sym y.1 ∙ (sym (ap (λ (v : VolumeData). v.phase) y.2) ∙ at.opens) in
      absurd (cc)
  opens_from (suc j) k step at has =
      below_from j k step at.opening at.writing at.was at.epoch (opens_with j at.opening at.writing step at.was at.opens) has

pub openings_go_on : OpeningsGoOn
openings_go_on run h stop content guards e life count is n k within at has = opens_from run h stop content guards e life count is n k within at has
