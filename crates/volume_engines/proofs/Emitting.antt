-- What a life emits is what its writer gives, and keeps the rules about it.
use Rattle.std.proofs.Common.{◌≡◌, ℕ, zero, suc, ◌+◌, ◌^◌, ◌<◌, ◌≤◌, ◌⊎◌, ⊎_elim, inl, inr, List, [], ◌∷◌, ◌++◌, length, false, append-nil, refl, sym, ◌∙◌, subst, ap, arith}
use Rattle.std.specs.List.{Contains}
use Rattle.std.proofs.lemmas.List.Elements.{Contains-push_cases}
use Rattle.redo_core.specs.Data.{RecordData, CutData, AdvanceData, advance_of}
use Rattle.redo_core.specs.Shape.{epoch_count}
use Rattle.redo_core.specs.declared.facts.Fact.{Fact}
use Rattle.redo_core.specs.declared.facts.Fact.TheVariants.{Record, Advance}
use Rattle.redo_core.proofs.Members.{none_in}
use Rattle.redo_writer.specs.Layout.{number_patch, commit_patch}
use Rattle.redo_writer.specs.State.{WriterState}
use Rattle.segment_theorems.specs.State.{State}
use Rattle.replica.specs.Parts.{ReplicaData}
use Rattle.guard.specs.declared.replies.Reply.{Reply}
use Rattle.guard.specs.declared.replies.Reply.TheVariants as reply
use Rattle.volume.specs.declared.actions.Action.{Action}
use Rattle.volume.specs.declared.events.Event.{Event}
use Rattle.volume.specs.declared.events.Event.TheVariants as event
use Rattle.volume.specs.declared.phases.Opening.{Opening}
use Rattle.volume.specs.declared.phases.Phase.{Phase}
use Rattle.volume.specs.declared.phases.Phase.TheVariants as phase
use Rattle.volume.specs.declared.phases.Stage.{Stage}
use Rattle.volume.specs.declared.phases.Stage.TheVariants as stage
use Rattle.volume.specs.declared.phases.Writing.{Writing}
use Rattle.volume.specs.declared.plans.CutPlan.{CutPlan}
use Rattle.volume.specs.declared.turns.Transition.{Transition}
use Rattle.volume.specs.Data.{VolumeData}
use Rattle.volume.specs.Fencing.{new_fencing}
use Rattle.volume.specs.Opening.{TakesPlan}
use Rattle.volume.specs.Resuming.{BeginsWriting}
use Rattle.volume.specs.Stepping.{IsVolumeStep, CallsOpen, Hears, Retries, Turns}
use Rattle.volume.specs.Writing.{WritesRecord, record_of_page, RaisesDurably, WritesPage, EndsTransaction, RaisesPoint, IsLastReached}
use Rattle.volume_theorems.specs.Nodes.{Content}
use Rattle.volume_theorems.specs.Runs.{VolumeRun}
use Rattle.volume_theorems.specs.ByMoment.{HasOpenedBy, IsReportedBy, IsDurableBy}
use Rattle.volume_logs.specs.Histories.{History, log_to}
use Rattle.volume_logs.specs.Writes.{GivesFact, Writes}
use Rattle.volume_logs.specs.Emitting.{LacksAdvances, GoesOn, IsWriter}
use Rattle.volume_logs.specs.PageLayout.{LeavesNumber, IsCommitRecord}
use Rattle.volume_logs.proofs.Durable.{opened_sent}
use Rattle.volume_logs.proofs.Moments.{until_earlier}
use Rattle.volume_logs.proofs.Readers.{opened_later}
use Rattle.volume_engines.specs.Lives.{Life, Guards}
use Rattle.volume_engines.specs.Proposals.{IsLifeIn}
use Rattle.volume_engines.specs.Emissions.{emitted, emitted_in, emitted_by, HasEmissions}
use Rattle.volume_engines.proofs.Emissions.{emits_open, all_before}
use Rattle.volume_engines.proofs.OpenSteps.{IsFormed, ReportsNone, ReportsPoint, OpenStep, IsRefusedOpening, stayed}
use Rattle.volume_engines.proofs.OpenSteps.OpenStep.{keeps, writes, raises, hears, ends}
use Rattle.volume_engines.proofs.TakingSteps.{TakingHas, PhaseHas, Agrees, hears_taking, retries_taking}
use Rattle.volume_engines.proofs.Writings.{IsAgreed, KnowsWriting, formed_number}
use Rattle.volume_engines.proofs.Reporting.{turned, quorum_is, refused, the_step, step_of, known_more, first_phase, reported}

-- Step n of the life opens epoch k + 1, with a writer that goes on from what the epochs below have by then. Generation and epoch fit into the
-- bytes that page 0 has for them.
pub record OpensFrom (h : History) (life : Life) (n k : ℕ) : Type 0 where
  pub opening : Opening
  pub was : (life.states n).phase ≡ phase.Opening opening
  pub writing : Writing
  pub opens : (life.states (suc n)).phase ≡ phase.Open writing
  pub epoch : writing.cut.epoch ≡ suc k
  pub base : List Fact
  pub lacks : LacksAdvances base (log_to h (life.moments n) k)
  pub goes_on : GoesOn h.readers writing.writer base (h.cuts (suc k))
  pub generation_fits : life.generation < 2 ^ 64
  pub epoch_fits : suc k < epoch_count

-- ---- what a writer gives
writes_push : (v : WriterState) (facts : List Fact) (f : Fact) (u w : WriterState) → Writes v facts u → GivesFact u f w → Writes v (facts ++ f ∷ []) w
writes_push v [] f u w done gives = subst (λ (x : WriterState). Writes x (f ∷ []) w) (sym done) (w, gives, refl)
writes_push v (g ∷ facts) f u w more gives = (more.0, more.1, writes_push more.0 facts f u w more.2 gives)

formed_epoch : (w : Writing) (r : RecordData) → IsFormed w r → r.epoch ≡ w.writer.epoch
formed_epoch w r formed = ⊎_elim
    (λ page. ap (λ (x : RecordData). x.epoch) page.4)
    (λ end. ap (λ (x : RecordData). x.epoch) end.1)
    formed

gives_redo : (w x : Writing) (r : RecordData) (actions : List Action) → IsFormed w r → WritesRecord w r x actions → GivesFact w.writer (Record r) x.writer
gives_redo w x r actions formed does =
    let number : r.number ≡ w.writer.last + 1 = formed_number w r formed in
    record {
      continues = does.continues;
      readers = ap (λ (s : WriterState). length s.points) does.writer.state;
      epoch = ap (λ (s : WriterState). s.epoch) does.writer.state;
      next = (formed_epoch w r formed, omega arith, ap (λ (s : WriterState). s.last) does.writer.state);
    }

gives_raise : (w x : Writing) (reader point : ℕ) (actions : List Action) → RaisesDurably w reader point x actions
    → GivesFact w.writer (Advance (advance_of w.writer.epoch reader point)) x.writer
gives_raise w x reader point actions does = record {
  continues = does.continues;
  readers = ap (λ (s : WriterState). length s.points) does.drops.state ∙ (ap (λ (s : WriterState). length s.points) does.raises.state ∙ does.raises.count);
  epoch = ap (λ (s : WriterState). s.epoch) does.drops.state ∙ ap (λ (s : WriterState). s.epoch) does.raises.state;
  next = (refl, ap (λ (s : WriterState). s.last) does.drops.state ∙ ap (λ (s : WriterState). s.last) does.raises.state);
}

-- a record of an engine of the generation
abbrev KeepsLayout : ℕ → RecordData → Type 0
KeepsLayout generation r = LeavesNumber r × (r.page ≡ 0 → IsCommitRecord generation r)

formed_layout : (w : Writing) (r : RecordData) (generation : ℕ) → w.session.generation ≡ generation → w.cut.epoch ≡ w.writer.epoch
    → w.writer.epoch < epoch_count → generation < 2 ^ 64 → IsFormed w r → KeepsLayout generation r
formed_layout w r generation same epoch small fits formed = ⊎_elim
    (λ page. (
      subst LeavesNumber (sym page.4) (page.2, refl),
      λ first. absurd (page.3.0 (sym (ap (λ (x : RecordData). x.page) page.4) ∙ first)),
    ))
    (λ end.
    let last : RecordData = record_of_page w.writer 0 false (commit_patch w.session.generation w.cut.epoch end.0 ∷ []) in
    let is : IsCommitRecord generation last = record {
      epoch_fits = small;
      generation_fits = fits;
      header = end.0;
      patches = ap (λ (n : ℕ). commit_patch n w.cut.epoch end.0 ∷ number_patch (w.writer.last + 1) ∷ []) same
          ∙ ap (λ (n : ℕ). commit_patch generation n end.0 ∷ number_patch (w.writer.last + 1) ∷ []) epoch;
    } in (
      subst LeavesNumber (sym end.1) (commit_patch w.session.generation w.cut.epoch end.0 ∷ [], refl),
      λ first. subst (IsCommitRecord generation) (sym end.1) is,
    ))
    formed

-- ---- what was durable is so later
pub durable_later : (run : VolumeRun) (s t e k p : ℕ) → s ≤ t → IsDurableBy run s e k p → IsDurableBy run t e k p
durable_later run s t e k p order durable = (
  opened_later run s t e k order durable.0,
  ⊎_elim
      (λ (opened : p ≡ ((run.engines e).cuts k).lo). inl opened)
      (λ (many : IsReportedBy run s e k p). inr (
        many.0,
        many.1,
        λ i among. let x = many.2 i among in let before : x.0 ≤ s = x.1 in (x.0, omega arith, x.2, x.3, x.4),
      ))
      durable.1,
)

-- ---- facts that a writer has given, by the moment t
record Given (run : VolumeRun) (t e k : ℕ) (first : WriterState) (facts : List Fact) (last : WriterState) : Type 0 where
  writes : Writes first facts last
  advances : (a : AdvanceData) → Contains facts (Advance a) → (p : ℕ) × (a.point ≤ p) × IsDurableBy run t e k p
  records : (r : RecordData) → Contains facts (Record r) → KeepsLayout (run.engines e).generation r

given_none : (run : VolumeRun) (t e k : ℕ) (first : WriterState) → Given run t e k first [] first
given_none run t e k first = record {
  writes = refl;
  advances = λ a inside. absurd (none_in (Advance a) inside);
  records = λ r inside. absurd (none_in (Record r) inside);
}

given_later : (run : VolumeRun) (s t e k : ℕ) (first : WriterState) (facts : List Fact) (last : WriterState) → s ≤ t → Given run s e k first facts last
    → Given run t e k first facts last
given_later run s t e k first facts last order g = record {
  writes = g.writes;
  advances = λ a inside. let x = g.advances a inside in (x.0, x.1, durable_later run s t e k x.0 order x.2);
  records = g.records;
}

given_record : (run : VolumeRun) (t e k : ℕ) (first : WriterState) (facts : List Fact) (last next : WriterState) (r : RecordData)
    → GivesFact last (Record r) next → KeepsLayout (run.engines e).generation r → Given run t e k first facts last → Given run t e k first (facts ++ Record r ∷ []) next
given_record run t e k first facts last next r gives layout g = record {
  writes = writes_push first facts (Record r) last next g.writes gives;
  advances = λ a inside. ⊎_elim
      (λ (old : Contains facts (Advance a)). g.advances a old)
      (λ (same : Record r ≡ Advance a). absurd (cc))
      (Contains-push_cases facts (Record r) (Advance a) inside);
  records = λ s inside. ⊎_elim
      (λ (old : Contains facts (Record s)). g.records s old)
      (λ (same : Record r ≡ Record s). let itself : r ≡ s = cc in subst (KeepsLayout (run.engines e).generation) itself layout)
      (Contains-push_cases facts (Record r) (Record s) inside);
}

given_advance : (run : VolumeRun) (t e k : ℕ) (first : WriterState) (facts : List Fact) (last next : WriterState) (a : AdvanceData) (p : ℕ)
    → GivesFact last (Advance a) next → a.point ≤ p → IsDurableBy run t e k p → Given run t e k first facts last → Given run t e k first (facts ++ Advance a ∷ []) next
given_advance run t e k first facts last next a p gives low durable g = record {
  writes = writes_push first facts (Advance a) last next g.writes gives;
  advances = λ b inside. ⊎_elim
      (λ (old : Contains facts (Advance b)). g.advances b old)
      (λ (same : Advance a ≡ Advance b).
      let itself : a ≡ b = cc in subst (λ (c : AdvanceData). (q : ℕ) × (c.point ≤ q) × IsDurableBy run t e k q) itself (p, low, durable))
      (Contains-push_cases facts (Advance a) (Advance b) inside);
  records = λ s inside. ⊎_elim
      (λ (old : Contains facts (Record s)). g.records s old)
      (λ (same : Advance a ≡ Record s). absurd (cc))
      (Contains-push_cases facts (Advance a) (Record s) inside);
}

-- ---- a machine that is at nothing
idle_stays : (old new : VolumeData) (actions : List Action) (happens : Event) → old.phase ≡ phase.Idle → IsRefusedOpening old happens
    → IsVolumeStep old happens actions new → new.phase ≡ phase.Idle
idle_stays old new actions event.Create at late says = ⊎_elim
    (λ no. ap (λ (v : VolumeData). v.phase) no.1.1 ∙ at)
    (λ first. let none : old.generation ≡ 0 = first.0 in absurd (omega arith))
    says
idle_stays old new actions (event.Open generation) at late says = ⊎_elim
    (λ no. ap (λ (v : VolumeData). v.phase) no.1.1 ∙ at)
    (λ up. let more : old.generation < generation = up.0 in absurd (omega arith))
    says
idle_stays old new actions (event.Write page init patches) at late says =
    ap (λ (v : VolumeData). v.phase) (subst (λ (q : Phase). CallsOpen (λ v asked after. WritesPage v page init patches.items asked after) old q actions new) at says).1 ∙ at
idle_stays old new actions (event.Commit header) at late says =
    ap (λ (v : VolumeData). v.phase) (subst (λ (q : Phase). CallsOpen (λ v asked after. EndsTransaction v header.items asked after) old q actions new) at says).1 ∙ at
idle_stays old new actions (event.Advance reader point) at late says =
    ap (λ (v : VolumeData). v.phase) (subst (λ (q : Phase). CallsOpen (λ v asked after. RaisesPoint v reader point asked after) old q actions new) at says).1 ∙ at
idle_stays old new actions (event.Answered node told) at late says = ⊎_elim
    (λ out. ap (λ (v : VolumeData). v.phase) out.2 ∙ at)
    (λ inside.
    let heard : Hears old.settings phase.Idle node told inside.1.0 inside.1.1 =
    subst (λ (q : Phase). Hears old.settings q node told inside.1.0 inside.1.1) at inside.1.2 in
    (stayed old new inside.1.0 inside.1.1 actions [] heard.0 inside.1.3).1 ∙ heard.1)
    says
idle_stays old new actions (event.Failed node) at late says = ⊎_elim
    (λ out. ap (λ (v : VolumeData). v.phase) out.2 ∙ at)
    (λ inside.
    let none : Retries old.settings phase.Idle node inside.1.0 = subst (λ (q : Phase). Retries old.settings q node inside.1.0) at inside.1.1 in
    (stayed old new old.phase inside.1.0 actions [] none inside.1.2).1 ∙ at)
    says

-- ---- the step that opens the volume
any_taking : (st : Stage) → TakingHas (λ plan. Unit {0}) st
any_taking (stage.Pulling left) = tt
any_taking (stage.Spreading plan known) = tt
any_taking (stage.Proposing plan accepted) = tt
any_taking (stage.Taking plan reported) = tt

any_agrees : (quorum node : ℕ) (o : Opening) (told : Reply) → Agrees (λ plan. Unit {0}) quorum o node told
any_agrees quorum node o (reply.Accepted generation birth epoch) = λ plan accepted proposing same enough. tt
any_agrees quorum node o other = tt

module _ (W : Writing → Type 0) (old new : VolumeData) (actions : List Action) (o : Opening) (at : old.phase ≡ phase.Opening o)
    (opens : (plan : CutPlan) (union : State) (w : Writing) → Unit {0} → plan.is_pending ≡ false → TakesPlan o.union plan.cut union
    → BeginsWriting o.session union plan.cut w → W w) where
  abbrev Holds : Phase → Type 0
  Holds p = PhaseHas (λ plan. Unit {0}) W p

  same_opening : new ≡ old → Holds new.phase
  same_opening same = subst Holds (sym (ap (λ (v : VolumeData). v.phase) same ∙ at)) (any_taking o.stage)

  hears_first : (node : ℕ) (told : Reply) (left : Phase) (t : Transition) → Hears old.settings (phase.Opening o) node told left t → Turns old left t actions new → Holds new.phase
  hears_first node told (phase.Opening p) t says turns =
      turned (λ plan. Unit {0}) W old new (phase.Opening p) t actions
      (hears_taking (λ plan. Unit {0}) W old.settings.quorum node o (any_taking o.stage) opens told p t (any_agrees old.settings.quorum node o told) says) turns
  hears_first node told phase.Idle t says turns = absurd says
  hears_first node told (phase.Creating c) t says turns = absurd says
  hears_first node told (phase.Fencing f) t says turns = absurd says
  hears_first node told (phase.Open w) t says turns = absurd says

  opening_step : (happens : Event) → IsRefusedOpening old happens → IsVolumeStep old happens actions new → Holds new.phase
  opening_step event.Create late says = ⊎_elim
      (λ no. same_opening no.1.1)
      (λ first. let none : old.generation ≡ 0 = first.0 in absurd (omega arith))
      says
  opening_step (event.Open generation) late says = ⊎_elim
      (λ no. same_opening no.1.1)
      (λ up. let more : old.generation < generation = up.0 in absurd (omega arith))
      says
  opening_step (event.Write page init patches) late says =
      same_opening (subst (λ (q : Phase). CallsOpen (λ v asked after. WritesPage v page init patches.items asked after) old q actions new) at says).1
  opening_step (event.Commit header) late says =
      same_opening (subst (λ (q : Phase). CallsOpen (λ v asked after. EndsTransaction v header.items asked after) old q actions new) at says).1
  opening_step (event.Advance reader point) late says =
      same_opening (subst (λ (q : Phase). CallsOpen (λ v asked after. RaisesPoint v reader point asked after) old q actions new) at says).1
  opening_step (event.Answered node told) late says = ⊎_elim
      (λ out. same_opening out.2)
      (λ inside.
      hears_first node told inside.1.0 inside.1.1 (subst (λ (q : Phase). Hears old.settings q node told inside.1.0 inside.1.1) at inside.1.2) inside.1.3)
      says
  opening_step (event.Failed node) late says = ⊎_elim
      (λ out. same_opening out.2)
      (λ inside.
      let stays : Retries old.settings (phase.Opening o) node inside.1.0 = subst (λ (q : Phase). Retries old.settings q node inside.1.0) at inside.1.1 in
      turned (λ plan. Unit {0}) W old new (phase.Opening o) inside.1.0 actions
      (retries_taking (λ plan. Unit {0}) W old.settings.quorum node o (any_taking o.stage) opens inside.1.0 stays)
      (subst (λ (q : Phase). Turns old q inside.1.0 actions new) at inside.1.2))
      says

-- ---- phases in which nothing is emitted
abbrev pub OpenOrIdle : Phase → Type 0
OpenOrIdle (phase.Open w) = Unit {0}
OpenOrIdle phase.Idle = Unit {0}
OpenOrIdle other = ⊥

idle_emits : (p : Phase) (happens : Event) (actions : List Action) → emitted_in p phase.Idle happens actions ≡ []
idle_emits phase.Idle happens actions = refl
idle_emits (phase.Creating c) happens actions = refl
idle_emits (phase.Fencing f) happens actions = refl
idle_emits (phase.Opening o) happens actions = refl
idle_emits (phase.Open w) happens actions = refl

module _ (run : VolumeRun) (h : History) (stop : ℕ) (content : ReplicaData → Content) (guards : Guards) (e : ℕ) (life : Life) (count : ℕ)
    (is : IsLifeIn run h stop content guards e life count) where
  idle_facts : (m : ℕ) → (life.states (suc m)).phase ≡ phase.Idle → emitted_by life (suc m) ≡ emitted_by life m
  idle_facts m at =
      ap (λ (p : Phase). emitted_by life m ++ emitted_in (life.states m).phase p (life.events m) (life.actions m)) at
      ∙ ap (λ (fs : List Fact). emitted_by life m ++ fs) (idle_emits (life.states m).phase (life.events m) (life.actions m))
      ∙ append-nil (emitted_by life m)

  writing_at : (m : ℕ) (w : Writing) → m < count → (life.states (suc m)).phase ≡ phase.Open w → KnowsWriting run h e life m w
  writing_at m w step at =
      subst (PhaseHas (λ plan. IsAgreed run e (life.moments m) plan) (KnowsWriting run h e life m)) at
      (known_more run h stop content guards e life count is m step)

  -- ---- once open
  idle_on_step : (m : ℕ) → suc m < count → (life.states (suc m)).phase ≡ phase.Idle → (life.states (suc (suc m))).phase ≡ phase.Idle
  idle_on_step m step at =
      idle_stays (life.states (suc m)) (life.states (suc (suc m))) (life.actions (suc m)) (life.events (suc m)) at
      (refused run h stop content guards e life count is m step (life.events (suc m)) (is.lives.heard m step))
      (the_step run h stop content guards e life count is m step)

  pub on_step : (m : ℕ) → suc m < count → (p : Phase) → (life.states (suc m)).phase ≡ p → OpenOrIdle p → OpenOrIdle (life.states (suc (suc m))).phase
  on_step m step (phase.Open w) at on = by_step (step_of run h stop content guards e life count is m step w at)
    where
      by_step : OpenStep (life.states (suc m)).settings.nodes (life.states (suc m)).settings.quorum w (life.events (suc m)) (life.actions (suc m)) (life.states (suc (suc m))).phase
          → OpenOrIdle (life.states (suc (suc m))).phase
      by_step (keeps x to same silent gives) = subst OpenOrIdle (sym to) tt
      by_step (writes x redo to does formed silent gives) = subst OpenOrIdle (sym to) tt
      by_step (raises x reader point to does silent gives) = subst OpenOrIdle (sym to) tt
      by_step (hears x node point to front counts said gives) = subst OpenOrIdle (sym to) tt
      by_step (ends to silent) = subst OpenOrIdle (sym to) tt
  on_step m step phase.Idle at on = subst OpenOrIdle (sym (idle_on_step m step at)) tt
  on_step m step (phase.Creating c) at on = absurd on
  on_step m step (phase.Fencing f) at on = absurd on
  on_step m step (phase.Opening o) at on = absurd on

  stays_on : (j m : ℕ) → j ≤ m → m < count → OpenOrIdle (life.states (suc j)).phase → OpenOrIdle (life.states (suc m)).phase
  stays_on j zero order within on = let same : j ≡ 0 = omega arith in subst (λ (i : ℕ). OpenOrIdle (life.states (suc i)).phase) same on
  stays_on j (suc m) order within on = ⊎_elim
      (λ (same : j ≡ suc m). subst (λ (i : ℕ). OpenOrIdle (life.states (suc i)).phase) same on)
      (λ (low : j ≤ m). on_step m within (life.states (suc m)).phase refl (stays_on j m low (omega arith) on))
      (let way : (j ≡ suc m) ⊎ (j ≤ m) = grind (arith, order) in way)

  not_open : (n j : ℕ) (o : Opening) → suc j < n → n < count → (life.states n).phase ≡ phase.Opening o → OpenOrIdle (life.states (suc j)).phase → ⊥
  not_open zero j o low within at on = absurd (omega arith)
  not_open (suc i) j o low within at on = subst OpenOrIdle at (stays_on j i (omega arith) (omega arith) on)

  -- ---- nothing is emitted before
  shut_emits : (n m : ℕ) (o : Opening) → m < n → n < count → (life.states n).phase ≡ phase.Opening o → (p : Phase) → (life.states m).phase ≡ p
      → emitted_in p (life.states (suc m)).phase (life.events m) (life.actions m) ≡ []
  shut_emits n zero o low within at (phase.Open w) from =
      let x = first_phase run h stop content guards e life count is (omega arith) in
      ap (λ (v : VolumeData). emitted_in (phase.Open w) v.phase (life.events 0) (life.actions 0)) x.2
      ∙ ap (λ (p : Phase). emitted_in (phase.Open w) p (life.events 0) (life.actions 0)) x.1
  shut_emits n (suc m) o low within at (phase.Open w) from = absurd (not_open n m o low within at (subst OpenOrIdle (sym from) tt))
  shut_emits n m o low within at phase.Idle from = refl
  shut_emits n m o low within at (phase.Creating c) from = refl
  shut_emits n m o low within at (phase.Fencing f) from = refl
  shut_emits n m o low within at (phase.Opening p) from = refl

  pub none_before : (n m : ℕ) (o : Opening) → m ≤ n → n < count → (life.states n).phase ≡ phase.Opening o → emitted_by life m ≡ []
  none_before n zero o low within at = refl
  none_before n (suc m) o low within at =
      ap (λ (fs : List Fact). emitted_by life m ++ fs) (shut_emits n m o low within at (life.states m).phase refl)
      ∙ append-nil (emitted_by life m) ∙ none_before n m o (omega arith) within at

  -- ---- the beginning
  -- what the truncation keeps is durable, and the writer is of the epoch
  abbrev Began : Writing → Type 0
  Began w = (w.durable ≡ w.cut.lo) × (w.writer.epoch ≡ w.cut.epoch)

  begins : (n : ℕ) (o : Opening) (w : Writing) → n < count → (life.states n).phase ≡ phase.Opening o → (life.states (suc n)).phase ≡ phase.Open w → Began w
  begins zero o w step at to =
      let x = first_phase run h stop content guards e life count is step in
      let no : phase.Fencing (new_fencing life.generation) ≡ phase.Open w = sym x.1 ∙ (sym (ap (λ (v : VolumeData). v.phase) x.2) ∙ to) in
      absurd (cc)
  begins (suc j) o w step at to =
      subst (PhaseHas (λ plan. Unit {0}) Began) to
      (opening_step Began (life.states (suc j)) (life.states (suc (suc j))) (life.actions (suc j)) o at
      (λ plan union x any own taken b.
      (b.durable ∙ ap (λ (c : CutData). c.lo) (sym b.cut_is), b.writer.epoch ∙ ap (λ (c : CutData). c.epoch) (sym b.cut_is)))
      (life.events (suc j)) (refused run h stop content guards e life count is j step (life.events (suc j)) (is.lives.heard j step))
      (the_step run h stop content guards e life count is j step))

  -- ---- from then on
  module _ (n k : ℕ) (within : n < count) (from : OpensFrom h life n k) (has : HasEmissions h life count (suc stop) (suc k)) where
    abbrev Gave : ℕ → List Fact → WriterState → Type 0
    Gave m facts last = Given run (life.moments m) e (suc k) from.writing.writer facts last

    record IsOn (m : ℕ) (w : Writing) : Type 0 where
      given : Gave m (emitted_by life (suc m)) w.writer
      durable : IsDurableBy run (life.moments m) e (suc k) w.durable
      cut : w.cut.epoch ≡ suc k
      epoch : w.writer.epoch ≡ suc k

    abbrev Goes : ℕ → Type 0
    Goes m =
        ((w : Writing) × ((life.states (suc m)).phase ≡ phase.Open w) × IsOn m w)
        ⊎ (((life.states (suc m)).phase ≡ phase.Idle) × ((last : WriterState) × Gave m (emitted_by life (suc m)) last))

    until : HasEmissions h life count stop (suc k)
    until = record { apart = has.apart; written = λ s early. has.written s (omega arith) }

    module _ (m : ℕ) (step : suc m < count) where
      in_order : life.moments m ≤ life.moments (suc m)
      in_order = is.lives.in_time m step

      gave_later : (facts : List Fact) (last : WriterState) → Gave m facts last → Gave (suc m) facts last
      gave_later facts last g = given_later run (life.moments m) (life.moments (suc m)) e (suc k) from.writing.writer facts last in_order g

      module _ (w : Writing) (at : (life.states (suc m)).phase ≡ phase.Open w) (on : IsOn m w) where
        k_now : KnowsWriting run h e life m w
        k_now = writing_at m w (omega arith) at

        durable_now : IsDurableBy run (life.moments (suc m)) e (suc k) w.durable
        durable_now = durable_later run (life.moments m) (life.moments (suc m)) e (suc k) w.durable in_order on.durable

        goes_with : (x : Writing) (more : List Fact) → (life.states (suc (suc m))).phase ≡ phase.Open x
            → emitted (life.events (suc m)) (life.actions (suc m)) w x ≡ more → Gave (suc m) (emitted_by life (suc m) ++ more) x.writer
            → IsDurableBy run (life.moments (suc m)) e (suc k) x.durable → x.cut ≡ w.cut → x.writer.epoch ≡ w.writer.epoch → Goes (suc m)
        goes_with x more to gives g durable cut epoch =
            let all : emitted_by life (suc (suc m)) ≡ emitted_by life (suc m) ++ more =
            emits_open life (suc m) w x at to ∙ ap (λ (fs : List Fact). emitted_by life (suc m) ++ fs) gives in
            inl (
              x,
              to,
              record {
                given = subst (λ (fs : List Fact). Gave (suc m) fs x.writer) (sym all) g;
                durable = durable;
                cut = ap (λ (c : CutData). c.epoch) cut ∙ on.cut;
                epoch = epoch ∙ on.epoch;
              },
            )

        goes_same : (x : Writing) → (life.states (suc (suc m))).phase ≡ phase.Open x → emitted (life.events (suc m)) (life.actions (suc m)) w x ≡ []
            → IsDurableBy run (life.moments (suc m)) e (suc k) x.durable → x.cut ≡ w.cut → x.writer ≡ w.writer → Goes (suc m)
        goes_same x to gives durable cut writer =
            goes_with x [] to gives
            (subst (λ (fs : List Fact). Gave (suc m) fs x.writer) (sym (append-nil (emitted_by life (suc m))))
            (subst (λ (s : WriterState). Gave (suc m) (emitted_by life (suc m)) s) (sym writer) (gave_later (emitted_by life (suc m)) w.writer on.given)))
            durable cut (ap (λ (s : WriterState). s.epoch) writer)

        layout : (redo : RecordData) → IsFormed w redo → KeepsLayout (run.engines e).generation redo
        layout redo formed =
            let own : (run.engines e).generation ≡ life.generation = is.names.generation in
            let fits : life.generation < 2 ^ 64 = from.generation_fits in
            let small : suc k < epoch_count = from.epoch_fits in
            let epoch : w.writer.epoch ≡ suc k = on.epoch in
            formed_layout w redo (run.engines e).generation (k_now.generation ∙ sym own) (on.cut ∙ sym on.epoch) (omega arith) (omega arith) formed

        durable_heard : (x : Writing) → (life.states (suc (suc m))).phase ≡ phase.Open x → x.cut ≡ w.cut
            → ReportsNone w x (life.actions (suc m)) ⊎ ReportsPoint (life.states (suc m)).settings.quorum w x (life.actions (suc m))
            → IsDurableBy run (life.moments (suc m)) e (suc k) x.durable
        durable_heard x to cut said = ⊎_elim
            (λ none. subst (λ (p : ℕ). IsDurableBy run (life.moments (suc m)) e (suc k) p) (sym none.0) durable_now)
            (λ some.
            let licensed : IsLastReached run.quorum w.backlog x.reached some.0 =
            subst (λ (q : ℕ). IsLastReached q w.backlog x.reached some.0) (quorum_is run h stop content guards e life count is m step) some.1 in
            let of : IsDurableBy run (life.moments (suc m)) e w.cut.epoch some.0 =
            reported run h stop content guards e life count is m some.0 w x step k_now (writing_at (suc m) x step to) cut
            (subst (λ (j : ℕ). HasEmissions h life count stop j) (sym on.cut) until) licensed in
            subst (λ (p : ℕ). IsDurableBy run (life.moments (suc m)) e (suc k) p) (sym some.2)
            (subst (λ (j : ℕ). IsDurableBy run (life.moments (suc m)) e j some.0) on.cut of))
            said

        goes_open : OpenStep (life.states (suc m)).settings.nodes (life.states (suc m)).settings.quorum w (life.events (suc m)) (life.actions (suc m)) (life.states (suc (suc m))).phase
            → Goes (suc m)
        goes_open (keeps x to same silent gives) =
            goes_same x to gives (subst (λ (p : ℕ). IsDurableBy run (life.moments (suc m)) e (suc k) p) (sym same.durable) durable_now) same.cut same.writer
        goes_open (writes x redo to does formed silent gives) =
            goes_with x (Record redo ∷ []) to gives
            (given_record run (life.moments (suc m)) e (suc k) from.writing.writer (emitted_by life (suc m)) w.writer x.writer redo
            (gives_redo w x redo (life.actions (suc m)) formed does) (layout redo formed) (gave_later (emitted_by life (suc m)) w.writer on.given))
            (subst (λ (p : ℕ). IsDurableBy run (life.moments (suc m)) e (suc k) p) (sym does.same.durable) durable_now)
            does.same.cut (ap (λ (s : WriterState). s.epoch) does.writer.state)
        goes_open (raises x reader point to does silent gives) =
            goes_with x (Advance (advance_of w.writer.epoch reader point) ∷ []) to gives
            (given_advance run (life.moments (suc m)) e (suc k) from.writing.writer (emitted_by life (suc m)) w.writer x.writer (advance_of w.writer.epoch reader point) w.durable
            (gives_raise w x reader point (life.actions (suc m)) does) does.durable durable_now (gave_later (emitted_by life (suc m)) w.writer on.given))
            (subst (λ (p : ℕ). IsDurableBy run (life.moments (suc m)) e (suc k) p) (sym does.same.durable) durable_now)
            does.same.cut (ap (λ (s : WriterState). s.epoch) does.drops.state ∙ ap (λ (s : WriterState). s.epoch) does.raises.state)
        goes_open (hears x node point to front counts said gives) = goes_same x to gives (durable_heard x to counts.same.1 said) counts.same.1 counts.same.2
        goes_open (ends to silent) =
            inr (to, (w.writer, subst (λ (fs : List Fact). Gave (suc m) fs w.writer) (sym (idle_facts (suc m) to)) (gave_later (emitted_by life (suc m)) w.writer on.given)))

      goes_on : Goes m → Goes (suc m)
      goes_on so_far = ⊎_elim
          (λ open_now. goes_open open_now.0 open_now.1 open_now.2 (step_of run h stop content guards e life count is m step open_now.0 open_now.1))
          (λ over.
          let idle : (life.states (suc (suc m))).phase ≡ phase.Idle = idle_on_step m step over.0 in
          inr (idle, (over.1.0, subst (λ (fs : List Fact). Gave (suc m) fs over.1.0) (sym (idle_facts (suc m) idle)) (gave_later (emitted_by life (suc m)) over.1.0 over.1.1))))
          so_far

    -- ---- the opening
    opened : HasOpenedBy run (life.moments n) e (suc k)
    opened = subst (λ (j : ℕ). HasOpenedBy run (life.moments n) e j) from.epoch (writing_at n from.writing within from.opens).opened

    began : Began from.writing
    began = begins n from.opening from.writing within from.was from.opens

    nothing : emitted_by life (suc n) ≡ []
    nothing =
        ap (λ (p : Phase). emitted_by life n ++ emitted_in p (life.states (suc n)).phase (life.events n) (life.actions n)) from.was
        ∙ append-nil (emitted_by life n) ∙ none_before n n from.opening (omega arith) within from.was

    start : Goes n
    start = inl (
      from.writing,
      from.opens,
      record {
        given = subst (λ (fs : List Fact). Gave n fs from.writing.writer) (sym nothing) (given_none run (life.moments n) e (suc k) from.writing.writer);
        durable = (
          opened,
          inl (began.0 ∙ ap (λ (c : CutData). c.lo)
              (sym (ap (λ (j : ℕ). (run.engines e).cuts j) (sym from.epoch) ∙ (writing_at n from.writing within from.opens).named))),
        );
        cut = from.epoch;
        epoch = began.1 ∙ from.epoch;
      },
    )

    goes_until : (m : ℕ) → n ≤ m → m < count → Goes m
    goes_until zero low step = let same : n ≡ 0 = omega arith in subst Goes same start
    goes_until (suc m) low step = ⊎_elim
        (λ (same : n ≡ suc m). subst Goes same start)
        (λ (less : n ≤ m). goes_on m step (goes_until m less (omega arith)))
        (let way : (n ≡ suc m) ⊎ (n ≤ m) = grind (arith, low) in way)

    -- ---- the writer
    gave_all : (m : ℕ) → Goes m → (last : WriterState) × Gave m (emitted_by life (suc m)) last
    gave_all m goes = ⊎_elim (λ on. (on.0.writer, on.2.given)) (λ over. over.1) goes

    writer_by : (m : ℕ) → suc m ≡ count → IsWriter run h (suc stop) k e
    writer_by m whole =
        let all = gave_all m (goes_until m (omega arith) (omega arith)) in
        let T0 : ℕ = life.moments n in
        let upto : T0 ≤ stop = is.upto n within in
        let last_upto : life.moments m ≤ stop = is.upto m (omega arith) in
        let written : h.written (suc stop) (suc k) ≡ emitted_by life (suc m) =
        has.written (suc stop) (omega arith)
        ∙ (ap (λ (i : ℕ). emitted_by life i) (all_before life count (suc stop) (λ i same. let early : life.moments i ≤ stop = is.upto i (omega arith) in omega arith))
        ∙ ap (λ (i : ℕ). emitted_by life i) (sym whole)) in
        let sent = opened_sent run T0 e (suc k) (until_earlier run T0 stop upto is.follows) opened in
        let newest : ((run.engines e).cuts (suc k)).epoch ≤ h.newest T0 = is.emitted.newest T0 ((run.engines e).cuts (suc k)) upto sent.1 in
        let at : ((run.engines e).cuts (suc k)).epoch ≡ suc k = sent.0 in
        let facts : Given run (suc stop) e (suc k) from.writing.writer (h.written (suc stop) (suc k)) all.0 =
        subst (λ (fs : List Fact). Given run (suc stop) e (suc k) from.writing.writer fs all.0) (sym written)
        (given_later run (life.moments m) (suc stop) e (suc k) from.writing.writer (emitted_by life (suc m)) all.0 (omega arith) all.1) in
        record {
          opened = opened_later run T0 (suc stop) e (suc k) (omega arith) opened;
          start = T0;
          before = omega arith;
          begun = omega arith;
          base = from.base;
          lacks = from.lacks;
          first = from.writing.writer;
          goes_on = from.goes_on;
          epoch = began.1 ∙ from.epoch;
          last = all.0;
          writes = facts.writes;
          durable = facts.advances;
          leaves = λ r inside. (facts.records r inside).0;
          commits = λ r inside. (facts.records r inside).1;
        }

pub writer_of : (run : VolumeRun) (h : History) (stop : ℕ) (content : ReplicaData → Content) (guards : Guards) (e : ℕ) (life : Life) (count : ℕ)
    → IsLifeIn run h stop content guards e life count → (n k : ℕ) → n < count → OpensFrom h life n k → HasEmissions h life count (suc stop) (suc k)
    → IsWriter run h (suc stop) k e
writer_of run h stop content guards e life zero is n k within from has = absurd (omega arith)
writer_of run h stop content guards e life (suc m) is n k within from has = writer_by run h stop content guards e life (suc m) is n k within from has m refl
