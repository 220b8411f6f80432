-- Which engine of a run a life is.
use Rattle.std.specs.Prelude.{◌≡◌, ℕ, zero, suc, ◌<◌, ◌≤◌, Bool, true, false, ◌==◌, if◌then◌else◌}
use Rattle.guard.specs.declared.replies.Reply.{Reply}
use Rattle.guard.specs.declared.replies.Reply.TheVariants as reply
use Rattle.volume.specs.declared.events.Event.{Event}
use Rattle.volume.specs.declared.events.Event.TheVariants as event
use Rattle.volume.specs.declared.fencing.Fencing.{Fencing}
use Rattle.volume.specs.declared.phases.Opening.{Opening}
use Rattle.volume.specs.declared.phases.Phase.TheVariants as phase
use Rattle.volume.specs.declared.plans.CutPlan.{CutPlan}
use Rattle.volume.specs.Sets.{is_marked}
use Rattle.volume_theorems.specs.Runs.{VolumeRun, Engine}
use Rattle.volume_engines.specs.Lives.{Life, Guards, IsLife}
use Rattle.volume_engines.specs.Proposed.{ProposesAt}

-- `at`, if the reply says that the node is fenced to the generation; else what was there before
abbrev pub fenced_in : Reply → ℕ → Bool → ℕ → ℕ → ℕ
fenced_in (reply.Fenced generation birth accepted) own here at before = if here then (if generation == own then at else before) else before
fenced_in told own here at before = before

abbrev pub fenced_at : Event → ℕ → ℕ → ℕ → ℕ → ℕ
fenced_at (event.Answered node told) own i at before = fenced_in told own (node == i) at before
fenced_at other own i at before = before

-- the moment of the last answer `fenced` of node i that the first steps have heard
abbrev pub fenced_by : Life → ℕ → ℕ → ℕ
fenced_by life zero i = 0
fenced_by life (suc n) i = fenced_at (life.events n) life.generation i (life.given n) (fenced_by life n i)

-- the quorum that step n has gathered
pub record Gathers (life : Life) (n : ℕ) (o : Opening) (e : Engine) : Type 0 where
  pub gathered : e.gathered ≡ life.moments n
  pub quorum : (i : ℕ) → e.quorum i ≡ is_marked o.session.quorum i
  pub fenced : (i : ℕ) → e.fenced i ≡ fenced_by life (suc n) i

-- step n is the first one after which the machine proposes such a plan
pub record IsFirstPlan (life : Life) (IsSuch : CutPlan → Type 0) (n : ℕ) (plan : CutPlan) : Type 0 where
  pub proposed : ProposesAt life n plan
  pub such : IsSuch plan
  pub first : (m : ℕ) (other : CutPlan) → m < n → ProposesAt life m other → ¬ (IsSuch other)

-- only pending truncations are proposed in the first steps
abbrev pub AreAllPending : Life → ℕ → Type 0
AreAllPending life count = (n : ℕ) (plan : CutPlan) → n < count → ProposesAt life n plan → plan.is_pending ≡ true

-- The engine of the run has the name of what the first steps of the life show: its generation, its quorum, the truncation that is first proposed
-- for each epoch, and the epoch of the first one that the engine makes itself; while there is none, an epoch above those of all pending ones.
pub record IsEngineOf (life : Life) (count : ℕ) (e : Engine) : Type 0 where
  pub generation : e.generation ≡ life.generation
  pub gathers : (n : ℕ) (f : Fencing) (o : Opening) → n < count → (life.states n).phase ≡ phase.Fencing f
      → (life.states (suc n)).phase ≡ phase.Opening o → Gathers life n o e
  pub cuts : (n : ℕ) (plan : CutPlan) → n < count → IsFirstPlan life (λ p. p.cut.epoch ≡ plan.cut.epoch) n plan → e.cuts plan.cut.epoch ≡ plan.cut
  pub opens : (n : ℕ) (plan : CutPlan) → n < count → IsFirstPlan life (λ p. p.is_pending ≡ false) n plan → e.opens ≡ plan.cut.epoch
  pub above : AreAllPending life count → (n : ℕ) (plan : CutPlan) → n < count → ProposesAt life n plan → plan.cut.epoch < e.opens

-- For each life there is such an engine.
abbrev pub LivesNameEngines : Type 0
LivesNameEngines = (run : VolumeRun) (guards : Guards) (e : ℕ) (life : Life) (count : ℕ) → IsLife run guards e life count → (engine : Engine) × IsEngineOf life count engine

-- It has that name after fewer steps, too.
abbrev pub NamesHoldBefore : Type 0
NamesHoldBefore =
    (run : VolumeRun) (guards : Guards) (e : ℕ) (life : Life) (count fewer : ℕ) (engine : Engine) → IsLife run guards e life count
    → IsEngineOf life count engine → fewer ≤ count → IsEngineOf life fewer engine
