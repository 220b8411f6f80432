-- What the history of a run has one moment later keeps the rules of the log.
use Rattle.std.proofs.Common.{◌≡◌, ℕ, zero, suc, ◌<◌, ◌≤◌, ◌⊎◌, ⊎_elim, List, Bool, refl, sym, ◌∙◌, subst, ap, arith}
use Rattle.std.specs.Prelude.{if◌then◌else◌}
use Rattle.std.specs.List.{Contains}
use Rattle.redo_core.specs.Data.{CutData}
use Rattle.redo_core.specs.Sets.{IsPart, cuts}
use Rattle.redo_core.specs.CompleteEpoch.{HasCutsTo, HasCut}
use Rattle.redo_core.specs.declared.facts.Fact.{Fact}
use Rattle.redo_core.proofs.CompleteEpochs.{has_cuts}
use Rattle.replica.specs.Parts.{ReplicaData}
use Rattle.volume_theorems.specs.Nodes.{Content, VolumeNode}
use Rattle.volume_theorems.specs.Runs.{VolumeRun}
use Rattle.volume_theorems.specs.Opening.{IsCutSent}
use Rattle.volume_theorems.specs.Stopping.{FollowsUntil}
use Rattle.volume_theorems.proofs.Stopping.{lt_true, lt_false}
use Rattle.volume_theorems.proofs.ByMoment.{epochs_in_order}
use Rattle.volume_theorems.specs.Contents.{IsContentOf}
use Rattle.volume_guards.specs.Guards.{as_node}
use Rattle.volume_logs.specs.Histories.{History, log_at}
use Rattle.volume_logs.specs.Emitting.{IsContentIn, IsWriter, IsEmitted}
use Rattle.volume_logs.proofs.Moments.{until_earlier}
use Rattle.volume_logs.proofs.Epochs.{at_later}
use Rattle.volume_logs.proofs.Moving.{emitted_on}
use Rattle.volume_engines.specs.Lives.{Life, Guards, IsLife}
use Rattle.volume_engines.specs.World.{HoldsPart, HasGuards}
use Rattle.volume_engines.specs.Proposals.{IsLifeIn}
use Rattle.volume_engines.specs.Emissions.{emitted_by, steps_before, HasEmissions}
use Rattle.volume_engines.specs.Following.{IsNextMoment}
use Rattle.volume_engines.specs.Running.{HasOpener, IsHistoryOf}
use Rattle.volume_engines.proofs.Later.{means_later}
use Rattle.volume_engines.proofs.Naming.{names_hold_before}
use Rattle.volume_engines.proofs.Writers.{emissions_keep_rules}

-- ---- a life up to one of its steps
pub moments_rise : (run : VolumeRun) (guards : Guards) (e : ℕ) (life : Life) (count : ℕ) → IsLife run guards e life count → (m n : ℕ) → m ≤ n → n < count
    → life.moments m ≤ life.moments n
moments_rise run guards e life count is m zero order step = subst (λ (x : ℕ). life.moments x ≤ life.moments 0) (let none : 0 ≡ m = omega arith in none) (omega arith)
moments_rise run guards e life count is m (suc n) order step = ⊎_elim
    (λ (same : m ≡ suc n). subst (λ (x : ℕ). life.moments x ≤ life.moments (suc n)) (sym same) (omega arith))
    (λ (early : m < suc n).
    let before : life.moments m ≤ life.moments n = moments_rise run guards e life count is m n (omega arith) (omega arith) in
    let next : life.moments n ≤ life.moments (suc n) = is.in_time n step in
    omega arith)
    (let way : (m ≡ suc n) ⊎ (m < suc n) = grind (arith, order) in way)

pub fewer_steps : (run : VolumeRun) (guards : Guards) (e : ℕ) (life : Life) (count fewer : ℕ) → fewer ≤ count → IsLife run guards e life count
    → IsLife run guards e life fewer
fewer_steps run guards e life count fewer low is = record {
  nodes = is.nodes;
  quorum = is.quorum;
  settings = is.settings;
  opens = is.opens;
  above = is.above;
  steps = λ n step. is.steps n (omega arith);
  in_time = λ n step. is.in_time n (omega arith);
  heard = λ n step. is.heard n (omega arith);
}

-- ---- the steps before a moment
module _ (life : Life) where
  abbrev picks : ℕ → ℕ → Bool → ℕ
  picks n t b = if b then suc n else steps_before life n t

  early_step : (n t : ℕ) → life.moments n < t → steps_before life (suc n) t ≡ suc n
  early_step n t early = ap (λ (b : Bool). picks n t b) (lt_true (life.moments n) t early)

  late_step : (n t : ℕ) → t ≤ life.moments n → steps_before life (suc n) t ≡ steps_before life n t
  late_step n t late = ap (λ (b : Bool). picks n t b) (lt_false (life.moments n) t late)

  early_or_late : (n t : ℕ) → (life.moments n < t) ⊎ (t ≤ life.moments n)
  early_or_late n t = let way : (life.moments n < t) ⊎ (t ≤ life.moments n) = grind arith in way

  at_most : (count t : ℕ) → steps_before life count t ≤ count
  at_most zero t = omega arith
  at_most (suc n) t = ⊎_elim
      (λ early. let same : steps_before life (suc n) t ≡ suc n = early_step n t early in omega arith)
      (λ late.
      let same : steps_before life (suc n) t ≡ steps_before life n t = late_step n t late in
      let low : steps_before life n t ≤ n = at_most n t in
      omega arith)
      (early_or_late n t)

  -- an early step is among them
  pub is_before : (count t m : ℕ) → m < count → life.moments m < t → m < steps_before life count t
  is_before zero t m within early = absurd (omega arith)
  is_before (suc n) t m within early = ⊎_elim
      (λ (last : life.moments n < t). let same : steps_before life (suc n) t ≡ suc n = early_step n t last in omega arith)
      (λ (late : t ≤ life.moments n).
      let same : steps_before life (suc n) t ≡ steps_before life n t = late_step n t late in
      let under : m < n = ⊎_elim
      (λ (here : m ≡ n). let at : life.moments m ≡ life.moments n = ap (λ (x : ℕ). life.moments x) here in absurd (omega arith))
      (λ (low : m < n). low)
      (let way : (m ≡ n) ⊎ (m < n) = grind (arith, within) in way) in
      let rest : m < steps_before life n t = is_before n t m under early in
      omega arith)
      (early_or_late n t)

  -- the last of them is early
  last_early : (count t m : ℕ) → suc m ≡ steps_before life count t → life.moments m < t
  last_early zero t m same = absurd (omega (arith, same))
  last_early (suc n) t m same = ⊎_elim
      (λ (early : life.moments n < t).
      let all : steps_before life (suc n) t ≡ suc n = early_step n t early in
      let here : m ≡ n = omega arith in
      subst (λ (x : ℕ). life.moments x < t) (sym here) early)
      (λ (late : t ≤ life.moments n). last_early n t m (same ∙ late_step n t late))
      (early_or_late n t)

  -- before an earlier moment come those of them that come before it
  before_both : (count s t : ℕ) → s ≤ t → steps_before life (steps_before life count t) s ≡ steps_before life count s
  before_both zero s t order = refl
  before_both (suc n) s t order = ⊎_elim
      (λ (early : life.moments n < t). ap (λ (x : ℕ). steps_before life x s) (early_step n t early))
      (λ (late : t ≤ life.moments n).
      ap (λ (x : ℕ). steps_before life x s) (late_step n t late) ∙ (before_both n s t order ∙ sym (late_step n s (omega arith))))
      (early_or_late n t)

-- ---- truncations
content_cuts : (log : List Fact) (c : Content) → IsContentIn log c → HasCutsTo c.cuts c.epoch
content_cuts log c x n some within =
    let y : HasCut (cuts x.0) n = has_cuts (cuts x.0) c.epoch x.2.epoch n some within in
    (y.0, (x.2.cuts y.0).1 y.1, y.2)

-- ---- one moment later
module _ (run : VolumeRun) (h : History) (stop t : ℕ) (content : ReplicaData → Content) (guards : Guards) (guarded : HasGuards run h t content guards)
    (next : IsNextMoment run h content guards t) (holds : (i : ℕ) → HoldsPart h t content (guards (suc t) i))
    (history : IsHistoryOf run h stop guards) (upto : suc t ≤ stop) (emitted : IsEmitted run h t) (follows : FollowsUntil run (suc t)) where
  held : (i : ℕ) → IsContentIn (log_at h t) (run.nodes (suc t) i).content
  held i =
      let x : HoldsPart h t content (guards (suc t) i) = holds i in
      (x.part, x.means.1.part, subst (λ (n : VolumeNode). IsContentOf x.part n.content) (sym (next.nodes i)) x.has)

  -- a node has the truncations of the epochs that it has come to
  has_all : (s i : ℕ) → s ≤ suc t → HasCutsTo (run.nodes s i).content.cuts (run.nodes s i).content.epoch
  has_all s i early = ⊎_elim
      (λ (now : s ≡ suc t).
      subst (λ (x : ℕ). HasCutsTo (run.nodes x i).content.cuts (run.nodes x i).content.epoch) (sym now)
      (content_cuts (log_at h t) (run.nodes (suc t) i).content (held i)))
      (λ (before : s ≤ t). content_cuts (log_at h s) (run.nodes s i).content (emitted.held s i before))
      (let way : (s ≡ suc t) ⊎ (s ≤ t) = grind (arith, early) in way)

  sent : (k : ℕ) → 1 ≤ k → k ≤ h.newest (suc t) → IsCutSent run (suc t) (h.cuts k)
  sent k some within =
      let c = history.newest (suc t) upto follows (omega arith) in
      let top : c.0.epoch ≡ h.newest (suc t) = c.2 in
      let d = epochs_in_order run (suc t) c.0 k follows (λ r i before. has_all r i (omega arith)) c.1 some (omega arith) in
      let named : h.cuts d.0.epoch ≡ d.0 = (history.sent (suc t) d.0 upto follows d.1).1 in
      subst (λ (x : CutData). IsCutSent run (suc t) x) (sym (ap (λ (n : ℕ). h.cuts n) (sym d.2) ∙ named)) d.1

  -- ---- the writer of an epoch
  module _ (k : ℕ) (w : HasOpener run h guards (suc t) k) where
    abbrev Count : ℕ
    Count = steps_before w.life w.count (suc t)

    within : Count ≤ w.count
    within = at_most w.life w.count (suc t)

    prefix : IsLife run guards w.engine w.life Count
    prefix = fewer_steps run guards w.engine w.life w.count Count within w.lives

    all_early : (m n : ℕ) → n ≡ Count → m < n → w.life.moments m ≤ t
    all_early m zero same low = absurd (omega arith)
    all_early m (suc n) same low =
        let last : w.life.moments n < suc t = last_early w.life w.count (suc t) n same in
        let bound : suc n ≤ w.count = subst (λ (x : ℕ). x ≤ w.count) (sym same) within in
        let rises : w.life.moments m ≤ w.life.moments n = moments_rise run guards w.engine w.life w.count w.lives m n (omega arith) (omega arith) in
        omega arith

    lives_in : IsLifeIn run h t content guards w.engine w.life Count
    lives_in = record {
      follows = until_earlier run t (suc t) (omega arith) follows;
      emitted = emitted;
      guarded = guarded;
      lives = prefix;
      readers = w.readers;
      names = names_hold_before run guards w.engine w.life w.count Count (run.engines w.engine) w.lives w.names within;
      upto = λ m low. all_early m Count refl low;
    }

    has : HasEmissions h w.life Count (suc t) (suc k)
    has = record {
      apart = λ n low. w.has.apart n (let all : Count ≤ w.count = within in omega arith);
      written = λ s early.
          w.has.written s early ∙ ap (λ (n : ℕ). emitted_by w.life n) (sym (before_both w.life w.count s (suc t) early));
    }

    writer : IsWriter run h (suc t) k w.engine
    writer =
        emissions_keep_rules run h t content guards w.engine w.life Count lives_in w.generation_fits w.step k
        (is_before w.life w.count (suc t) w.step w.within w.early) w.opens w.epoch_fits has

  writers : (k : ℕ) (f : Fact) → Contains (h.written (suc t) (suc k)) f → (e : ℕ) × IsWriter run h (suc t) k e
  writers k f inside =
      let w : HasOpener run h guards (suc t) k = history.written (suc t) k f upto follows inside in
      (w.engine, writer k w)

  pub emitted_next : IsEmitted run h (suc t)
  emitted_next = emitted_on run h t emitted (record {
    shaped = λ k some low. history.shaped (suc t) k upto some low;
    sent = sent;
    newest = λ c was. (history.sent (suc t) c upto follows was).0;
    grows = λ k. history.grows t (suc t) k (omega arith) upto;
    writers = writers;
    held = held;
  })

  -- ---- the guards
  inner : IsPart (log_at h t) (log_at h (suc t))
  inner = at_later run h (suc t) emitted_next t (suc t) (omega arith) (omega arith)

  later : (i : ℕ) → HoldsPart h (suc t) content (guards (suc t) i)
  later i =
      let x : HoldsPart h t content (guards (suc t) i) = holds i in
      record { part = x.part; means = means_later h.readers (log_at h t) (log_at h (suc t)) x.part (guards (suc t) i).replica.cached.segment inner x.means; has = x.has }

  pub guards_next : HasGuards run h (suc t) content guards
  guards_next = record {
    nodes = λ s i early. ⊎_elim
        (λ (now : s ≡ suc t). subst (λ (x : ℕ). run.nodes x i ≡ as_node content (guards x i)) (sym now) (next.nodes i))
        (λ (before : s ≤ t). guarded.nodes s i before)
        (let way : (s ≡ suc t) ⊎ (s ≤ t) = grind (arith, early) in way);
    holds = λ s i early. ⊎_elim
        (λ (now : s ≡ suc t). subst (λ (x : ℕ). HoldsPart h x content (guards x i)) (sym now) (later i))
        (λ (before : s ≤ t). guarded.holds s i before)
        (let way : (s ≡ suc t) ⊎ (s ≤ t) = grind (arith, early) in way);
  }
