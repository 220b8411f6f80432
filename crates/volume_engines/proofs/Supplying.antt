-- What a life asks of nodes brings facts of the log.
use Rattle.std.proofs.Common.{◌≡◌, ℕ, zero, suc, ◌<◌, ◌≤◌, ◌⊎◌, ⊎_elim, inr, List, [], refl, sym, subst, arith}
use Rattle.std.specs.List.{Contains}
use Rattle.std.proofs.lemmas.List.Elements.{Contains-append_cases}
use Rattle.redo_core.specs.Sets.{IsPart}
use Rattle.redo_core.specs.declared.facts.Fact.{Fact}
use Rattle.redo_core.specs.declared.facts.Fact.TheVariants.{Record, Cut, Advance}
use Rattle.redo_core.proofs.Members.{none_in}
use Rattle.messages.specs.Summaries.{SummaryData}
use Rattle.messages.specs.Deltas.{DeltaData}
use Rattle.replica.specs.Parts.{ReplicaData}
use Rattle.replica.specs.declared.requests.Request.{Request as SegmentRequest}
use Rattle.replica.specs.declared.requests.Request.TheVariants as segment
use Rattle.replica.specs.Meaning.{Brings}
use Rattle.guard.specs.declared.requests.Request.{Request}
use Rattle.guard.specs.declared.requests.Request.TheVariants as request
use Rattle.volume.specs.declared.actions.Action.{Action}
use Rattle.volume.specs.declared.events.Event.{Event}
use Rattle.volume.specs.declared.phases.Phase.{Phase}
use Rattle.volume.specs.declared.phases.Phase.TheVariants as phase
use Rattle.volume.specs.declared.phases.Writing.{Writing}
use Rattle.volume_theorems.specs.Nodes.{Content}
use Rattle.volume_theorems.specs.Runs.{VolumeRun}
use Rattle.volume_theorems.specs.Opening.{IsCutSent}
use Rattle.volume_theorems.proofs.ByMoment.{lo_is_held}
use Rattle.volume_theorems.proofs.Proposing.{sent_later}
use Rattle.volume_logs.specs.Histories.{History, log_at}
use Rattle.volume_logs.proofs.Epochs.{in_epoch, at_later}
use Rattle.volume_engines.specs.Lives.{Life, Guards}
use Rattle.volume_engines.specs.Proposals.{IsLifeIn}
use Rattle.volume_engines.specs.Emissions.{emitted_in, emitted_by, steps_before, HasEmissions}
use Rattle.volume_engines.specs.Following.{IsRecorded}
use Rattle.volume_engines.proofs.Emissions.{emitted_more}
use Rattle.volume_engines.proofs.Sending.{RightUnder, Right, IsDeltaOf}
use Rattle.volume_engines.proofs.Knowing.{Own, KnowsOpen, KnowsPhase}
use Rattle.volume_engines.proofs.HearingOpening.{sent_in_log}
use Rattle.volume_engines.proofs.Steps.{known}
use Rattle.volume_engines.proofs.Recording.{is_before}
use Rattle.volume_engines.proofs.Bringing.{BringsTo}

-- ---- what a life has emitted
emits_in_open : (old new : Phase) (happens : Event) (actions : List Action) (f : Fact) → Contains (emitted_in old new happens actions) f
    → (w : Writing) × (new ≡ phase.Open w)
emits_in_open (phase.Open v) (phase.Open w) happens actions f inside = (w, refl)
emits_in_open old new happens actions f inside = absurd (none_in f inside)

module _ (life : Life) where
  -- only an open volume emits
  emitted_open : (n : ℕ) (f : Fact) → Contains (emitted_by life n) f → (j : ℕ) × (j < n) × ((w : Writing) × ((life.states (suc j)).phase ≡ phase.Open w))
  emitted_open zero f inside = absurd (none_in f inside)
  emitted_open (suc n) f inside = ⊎_elim
      (λ (early : Contains (emitted_by life n) f). let x = emitted_open n f early in let low : x.0 < n = x.1 in (x.0, omega arith, x.2))
      (λ (last : Contains (emitted_in (life.states n).phase (life.states (suc n)).phase (life.events n) (life.actions n)) f).
      (n, omega arith, emits_in_open (life.states n).phase (life.states (suc n)).phase (life.events n) (life.actions n) f last))
      (Contains-append_cases (emitted_by life n) (emitted_in (life.states n).phase (life.states (suc n)).phase (life.events n) (life.actions n)) f inside)

  emitted_upto : (m n : ℕ) → m ≤ n → IsPart (emitted_by life m) (emitted_by life n)
  emitted_upto m zero order f inside = subst (λ (i : ℕ). Contains (emitted_by life i) f) (let none : m ≡ 0 = omega arith in none) inside
  emitted_upto m (suc n) order f inside = ⊎_elim
      (λ (same : m ≡ suc n). subst (λ (i : ℕ). Contains (emitted_by life i) f) same inside)
      (λ (low : m ≤ n). emitted_more life n f (emitted_upto m n low f inside))
      (let way : (m ≡ suc n) ⊎ (m ≤ n) = grind (arith, order) in way)

module _ (run : VolumeRun) (h : History) (t : ℕ) (content : ReplicaData → Content) (guards : Guards) (e : ℕ) (life : Life) (count whole : ℕ)
    (is : IsLifeIn run h t content guards e life count) (all : count ≤ whole) (written : IsRecorded h life whole t) where
  -- its epoch is sent
  epoch_sent : (j : ℕ) (w : Writing) → j < count → (life.states (suc j)).phase ≡ phase.Open w → IsCutSent run t w.cut
  epoch_sent j w within at =
      let k : KnowsOpen run e (life.moments j) (Own life j) w =
      subst (λ (p : Phase). KnowsPhase run h guards e life j p) at (known run h t content guards e life count is j within).knows in
      sent_later run (life.moments j) t w.cut (is.upto j within) k.1

  own_in_log : (n : ℕ) (f : Fact) → n < count → life.moments n < t → Own life n f → Contains (log_at h t) f
  own_in_log n f within early own =
      let x = emitted_open life (suc n) f own in
      let low : x.0 < suc n = x.1 in
      let w : Writing = x.2.0 in
      let sent : IsCutSent run t w.cut = epoch_sent x.0 w (omega arith) x.2.1 in
      let held = lo_is_held run t w.cut is.follows sent in
      let epoch : w.cut.epoch ≡ suc (run.nodes held.0 held.1).content.epoch = held.3 in
      let newest : w.cut.epoch ≤ h.newest t = is.emitted.newest t w.cut (omega arith) sent in
      let has : HasEmissions h life whole t w.cut.epoch = written x.0 w (omega arith) x.2.1 in
      let before : n < steps_before life whole t = is_before life whole t n (omega arith) early in
      let inside : Contains (emitted_by life (steps_before life whole t)) f = emitted_upto life (suc n) (steps_before life whole t) (omega arith) f own in
      let there : Contains (h.written t w.cut.epoch) f = subst (λ (fs : List Fact). Contains fs f) (sym (has.written t (omega arith))) inside in
      in_epoch h t (h.newest t) (run.nodes held.0 held.1).content.epoch f (omega arith)
      (inr (subst (λ (k : ℕ). Contains (h.written t k) f) epoch there))

  -- ---- what it asks
  module _ (n : ℕ) (within : n < count) (early : life.moments n < t) (old : ReplicaData) where
    abbrev Log : List Fact
    Log = log_at h t

    abbrev Brought : SegmentRequest → Type 0
    Brought asked = (brought : List Fact) × Brings h.readers Log old asked brought

    delta_brings : (summary : SummaryData) (delta : DeltaData) → IsDeltaOf h (life.moments n) summary delta → Brought (segment.Absorb summary delta)
    delta_brings summary delta of =
        let inner : IsPart (log_at h (life.moments n)) Log = at_later run h t is.emitted (life.moments n) t (omega arith) (omega arith) in
        (of.0, (of.1.0, λ f inside. inner f (of.1.1 f inside), of.1.2, of.1.3))

    fact_brings : (Q : SummaryData → Type 0) (f : Fact) → RightUnder run h e Q (Own life n) (life.moments n) (segment.Take f) → Contains Log f
    fact_brings Q (Record r) right = own_in_log n (Record r) within early right
    fact_brings Q (Advance a) right = own_in_log n (Advance a) within early right
    fact_brings Q (Cut cut) right =
        let sent : IsCutSent run t cut = sent_later run (life.moments n) t cut (omega arith) right in
        let held = lo_is_held run t cut is.follows sent in
        sent_in_log run h t t (run.nodes held.0 held.1).content.epoch cut is.follows is.emitted (omega arith) held.3 sent

    under_brings : (Q : SummaryData → Type 0) (asked : SegmentRequest) → RightUnder run h e Q (Own life n) (life.moments n) asked → Brought asked
    under_brings Q (segment.Answer summary) right = ([], tt)
    under_brings Q segment.Front right = ([], tt)
    under_brings Q (segment.Take fact) right = ([], fact_brings Q fact right)
    under_brings Q segment.Ask right = ([], tt)
    under_brings Q (segment.Absorb summary delta) right = delta_brings summary delta right
    under_brings Q asked right = absurd right

    pub life_brings : (Q : SummaryData → Type 0) (node : ℕ) (asked : Request) → Right run h e Q (Own life n) (life.moments n) node asked
        → (brought : List Fact) × BringsTo h.readers Log old asked brought
    life_brings Q node (request.As generation birth asked) right = under_brings Q asked right
    life_brings Q node (request.Plain (segment.Absorb summary delta)) right = delta_brings summary delta right
    life_brings Q node (request.Plain asked) right = absurd right
    life_brings Q node asked right = ([], tt)
