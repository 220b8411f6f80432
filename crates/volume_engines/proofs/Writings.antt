-- What is known of an open volume after each step, and of the truncation with which it opens.
use Rattle.std.proofs.Common.{◌≡◌, ℕ, zero, suc, ◌+◌, ◌<◌, ◌≤◌, ◌⊎◌, ⊎_elim, List, [], ◌∷◌, ◌++◌, length, false, sym, ◌∙◌, subst, ap, arith, length-set}
use Rattle.std.specs.Prelude.{replicate, slice_index, max}
use Rattle.std.specs.List.{Contains}
use Rattle.std.proofs.lemmas.List.Elements.{Contains-append_right, Contains-push_cases}
use Rattle.redo_core.specs.Data.{RecordData, CutData}
use Rattle.segment_theorems.specs.State.{State}
use Rattle.redo_core.specs.declared.facts.Fact.{Fact}
use Rattle.redo_core.specs.declared.facts.Fact.TheVariants.{Record}
use Rattle.redo_core.proofs.Members.{none_in, here, filtered}
use Rattle.volume.specs.declared.phases.Phase.TheVariants as phase
use Rattle.volume.specs.declared.phases.Session.{Session}
use Rattle.volume.specs.declared.phases.Writing.{Writing}
use Rattle.volume.specs.declared.plans.CutPlan.{CutPlan}
use Rattle.volume.specs.Resuming.{BeginsWriting}
use Rattle.volume.specs.Writing.{WritesRecord, RaisesDurably, records_above, with_reached}
use Rattle.volume_theorems.specs.Runs.{VolumeRun, MakesMove, Many}
use Rattle.volume_theorems.specs.Runs.Move.{Accepts}
use Rattle.volume_theorems.specs.ByMoment.{HasOpenedBy}
use Rattle.volume_logs.specs.Histories.{History}
use Rattle.volume_logs.proofs.Readers.{opened_later}
use Rattle.volume_engines.specs.Lives.{Life}
use Rattle.volume_engines.specs.Emissions.{emitted, emitted_by}
use Rattle.volume_engines.proofs.Named.{NamesPlan}
use Rattle.volume_engines.proofs.Emissions.{emitted_more, emits_open}
use Rattle.volume_engines.proofs.OpenSteps.{Keeps, IsFormed, Counts, ReportsNone, ReportsPoint}
use Rattle.volume_engines.proofs.Reaching.{HasReported, HaveReported, have_later, have_more}

-- ---- the truncation that is taken
-- the plan is the engine's, and a quorum has accepted it
pub record IsAgreed (run : VolumeRun) (e t : ℕ) (plan : CutPlan) : Type 0 where
  pub below : ℕ
  pub epoch : plan.cut.epoch ≡ suc below
  pub named : NamesPlan plan (run.engines e)
  pub accepted : Many run (λ i. (s : ℕ) × (s < t) × MakesMove run s i (Accepts e plan.cut.epoch))

many_earlier : (run : VolumeRun) (e s t k : ℕ) → s ≤ t → Many run (λ i. (p : ℕ) × (p < s) × MakesMove run p i (Accepts e k))
    → Many run (λ i. (p : ℕ) × (p < t) × MakesMove run p i (Accepts e k))
many_earlier run e s t k order many =
    (many.0, many.1, λ i among. let x = many.2 i among in let before : x.0 < s = x.1 in (x.0, omega arith, x.2))

pub agreed_later : (run : VolumeRun) (e s t : ℕ) (plan : CutPlan) → s ≤ t → IsAgreed run e s plan → IsAgreed run e t plan
agreed_later run e s t plan order is = record {
  below = is.below;
  epoch = is.epoch;
  named = is.named;
  accepted = many_earlier run e s t plan.cut.epoch order is.accepted;
}

pub agreed_opened : (run : VolumeRun) (e t : ℕ) (plan : CutPlan) → plan.is_pending ≡ false → IsAgreed run e t plan → HasOpenedBy run t e plan.cut.epoch
agreed_opened run e t plan own is = record { own = is.named.own own; accepted = is.accepted }

-- ---- an open volume
-- each record of the backlog is among the facts
abbrev pub HasBacklog : List Fact → List RecordData → Type 0
HasBacklog facts backlog = (r : RecordData) → Contains backlog r → (0 < r.number) × Contains facts (Record r)

-- step n leaves an open volume
pub record KnowsWriting (run : VolumeRun) (h : History) (e : ℕ) (life : Life) (n : ℕ) (w : Writing) : Type 0 where
  pub generation : w.session.generation ≡ life.generation
  pub below : ℕ
  pub epoch : w.cut.epoch ≡ suc below
  pub named : (run.engines e).cuts w.cut.epoch ≡ w.cut
  pub opened : HasOpenedBy run (life.moments n) e w.cut.epoch
  pub long : length w.reached ≡ 15
  pub reached : HaveReported run h e (life.moments n) w.cut.epoch w.reached
  pub backlog : HasBacklog (emitted_by life (suc n)) w.backlog

pub writing_later : (run : VolumeRun) (h : History) (e : ℕ) (life : Life) (n : ℕ) (w : Writing) → life.moments n ≤ life.moments (suc n)
    → KnowsWriting run h e life n w → KnowsWriting run h e life (suc n) w
writing_later run h e life n w order k = record {
  generation = k.generation;
  below = k.below;
  epoch = k.epoch;
  named = k.named;
  opened = opened_later run (life.moments n) (life.moments (suc n)) e w.cut.epoch order k.opened;
  long = k.long;
  reached = have_later run h e (life.moments n) (life.moments (suc n)) w.cut.epoch w.reached order k.reached;
  backlog = λ r inside. let x = k.backlog r inside in (x.0, emitted_more life (suc n) (Record r) x.1);
}

-- the session's generation, the truncation, and what nodes have reported
abbrev pub SameRest : Writing → Writing → Type 0
SameRest w x = (x.session.generation ≡ w.session.generation) × (x.cut ≡ w.cut) × (x.reached ≡ w.reached)

pub writing_same : (run : VolumeRun) (h : History) (e : ℕ) (life : Life) (n : ℕ) (w x : Writing) → SameRest w x
    → HasBacklog (emitted_by life (suc n)) x.backlog → KnowsWriting run h e life n w → KnowsWriting run h e life n x
writing_same run h e life n w x same backlog k = record {
  generation = same.0 ∙ k.generation;
  below = k.below;
  epoch = ap (λ (c : CutData). c.epoch) same.1 ∙ k.epoch;
  named = subst (λ (c : CutData). (run.engines e).cuts c.epoch ≡ c) (sym same.1) k.named;
  opened = subst (λ (c : CutData). HasOpenedBy run (life.moments n) e c.epoch) (sym same.1) k.opened;
  long = ap length same.2 ∙ k.long;
  reached = subst (λ (c : CutData). HaveReported run h e (life.moments n) c.epoch x.reached) (sym same.1)
      (subst (λ (ns : List ℕ). HaveReported run h e (life.moments n) w.cut.epoch ns) (sym same.2) k.reached);
  backlog = backlog;
}

-- the number of a record that is written
pub formed_number : (w : Writing) (r : RecordData) → IsFormed w r → r.number ≡ w.writer.last + 1
formed_number w r formed = ⊎_elim
    (λ page. ap (λ (x : RecordData). x.number) page.4)
    (λ end. ap (λ (x : RecordData). x.number) end.1)
    formed

module _ (run : VolumeRun) (h : History) (e : ℕ) (life : Life) (n : ℕ) (w x : Writing) (order : life.moments n ≤ life.moments (suc n))
    (k : KnowsWriting run h e life n w) (from : (life.states (suc n)).phase ≡ phase.Open w) (to : (life.states (suc (suc n))).phase ≡ phase.Open x) where
  later : KnowsWriting run h e life (suc n) w
  later = writing_later run h e life n w order k

  pub writing_keeps : Keeps w x → KnowsWriting run h e life (suc n) x
  writing_keeps same =
      writing_same run h e life (suc n) w x (same.generation, same.cut, same.reached)
      (subst (λ (rs : List RecordData). HasBacklog (emitted_by life (suc (suc n))) rs) (sym same.backlog) later.backlog) later

  pub writing_raises : (reader point : ℕ) → RaisesDurably w reader point x (life.actions (suc n)) → KnowsWriting run h e life (suc n) x
  writing_raises reader point does =
      writing_same run h e life (suc n) w x (ap (λ (s : Session). s.generation) does.same.session, does.same.cut, does.same.reached)
      (subst (λ (rs : List RecordData). HasBacklog (emitted_by life (suc (suc n))) rs) (sym does.backlog) later.backlog) later

  pub writing_writes : (redo : RecordData) → WritesRecord w redo x (life.actions (suc n)) → IsFormed w redo
      → emitted (life.events (suc n)) (life.actions (suc n)) w x ≡ Record redo ∷ [] → KnowsWriting run h e life (suc n) x
  writing_writes redo does formed gives =
      let all : emitted_by life (suc (suc n)) ≡ emitted_by life (suc n) ++ Record redo ∷ [] =
      emits_open life (suc n) w x from to ∙ ap (λ (fs : List Fact). emitted_by life (suc n) ++ fs) gives in
      let number : redo.number ≡ w.writer.last + 1 = formed_number w redo formed in
      let last : (0 < redo.number) × Contains (emitted_by life (suc (suc n))) (Record redo) = (
        omega arith,
        subst (λ (fs : List Fact). Contains fs (Record redo)) (sym all)
            (Contains-append_right (emitted_by life (suc n)) (Record redo ∷ []) (Record redo) (here (Record redo) [])),
      ) in
      let both : HasBacklog (emitted_by life (suc (suc n))) (w.backlog ++ redo ∷ []) = λ r inside. ⊎_elim
      (λ (old : Contains w.backlog r). later.backlog r old)
      (λ (same : redo ≡ r). subst (λ (y : RecordData). (0 < y.number) × Contains (emitted_by life (suc (suc n))) (Record y)) same last)
      (Contains-push_cases w.backlog redo r inside) in
      writing_same run h e life (suc n) w x (ap (λ (s : Session). s.generation) does.same.session, does.same.cut, does.same.reached)
      (subst (λ (rs : List RecordData). HasBacklog (emitted_by life (suc (suc n))) rs) (sym does.backlog) both) later

  -- ---- fronts
  kept_backlog : ReportsNone w x (life.actions (suc n)) ⊎ ReportsPoint run.quorum w x (life.actions (suc n)) → HasBacklog (emitted_by life (suc (suc n))) x.backlog
  kept_backlog reports = ⊎_elim
      (λ none. subst (λ (rs : List RecordData). HasBacklog (emitted_by life (suc (suc n))) rs) (sym none.1) later.backlog)
      (λ some.
      let part : HasBacklog (emitted_by life (suc (suc n))) (records_above some.0 w.backlog) = λ r inside.
      later.backlog r (filtered _ w.backlog r inside).0 in
      subst (λ (rs : List RecordData). HasBacklog (emitted_by life (suc (suc n))) rs) (sym some.3) part)
      reports

  pub writing_hears : (node point : ℕ) → Counts w x node point → node < run.roster → run.roster ≤ 15
      → HasReported run h e (life.moments (suc n)) w.cut.epoch point node
      → ReportsNone w x (life.actions (suc n)) ⊎ ReportsPoint run.quorum w x (life.actions (suc n)) → KnowsWriting run h e life (suc n) x
  writing_hears node point counts within most one reports =
      let all : HaveReported run h e (life.moments (suc n)) w.cut.epoch (with_reached w.reached node point) =
      have_more run h e (life.moments (suc n)) w.cut.epoch node point w.reached (let long : length w.reached ≡ 15 = k.long in omega arith) within one later.reached in
      record {
        generation = ap (λ (s : Session). s.generation) counts.same.0 ∙ k.generation;
        below = k.below;
        epoch = ap (λ (c : CutData). c.epoch) counts.same.1 ∙ k.epoch;
        named = subst (λ (c : CutData). (run.engines e).cuts c.epoch ≡ c) (sym counts.same.1) k.named;
        opened = subst (λ (c : CutData). HasOpenedBy run (life.moments (suc n)) e c.epoch) (sym counts.same.1) later.opened;
        long = ap length counts.reached ∙ (length-set w.reached node (max (slice_index w.reached node) point) ∙ k.long);
        reached = subst (λ (c : CutData). HaveReported run h e (life.moments (suc n)) c.epoch x.reached) (sym counts.same.1)
            (subst (λ (ns : List ℕ). HaveReported run h e (life.moments (suc n)) w.cut.epoch ns) (sym counts.reached) all);
        backlog = kept_backlog reports;
      }

-- ---- at its beginning
none_reached : (m i : ℕ) → 0 < slice_index (replicate m 0) i → ⊥
none_reached zero i some = let no : 0 < 0 = some in absurd (omega arith)
none_reached (suc m) zero some = let no : 0 < 0 = some in absurd (omega arith)
none_reached (suc m) (suc i) some = none_reached m i some

pub writing_begins : (run : VolumeRun) (h : History) (e : ℕ) (life : Life) (n : ℕ) (session : Session) (union : State) (plan : CutPlan) (w : Writing)
    → session.generation ≡ life.generation → IsAgreed run e (life.moments n) plan → plan.is_pending ≡ false → BeginsWriting session union plan.cut w
    → KnowsWriting run h e life n w
writing_begins run h e life n session union plan w same is own begins = record {
  generation = ap (λ (s : Session). s.generation) begins.session_is ∙ same;
  below = is.below;
  epoch = ap (λ (c : CutData). c.epoch) begins.cut_is ∙ is.epoch;
  named = subst (λ (c : CutData). (run.engines e).cuts c.epoch ≡ c) (sym begins.cut_is) is.named.cut;
  opened = subst (λ (c : CutData). HasOpenedBy run (life.moments n) e c.epoch) (sym begins.cut_is) (agreed_opened run e (life.moments n) plan own is);
  long = ap length begins.reached;
  reached = λ i some. absurd (none_reached 15 i (subst (λ (ns : List ℕ). 0 < slice_index ns i) begins.reached some));
  backlog = λ r inside. absurd (none_in r (subst (λ (rs : List RecordData). Contains rs r) begins.backlog inside));
}
