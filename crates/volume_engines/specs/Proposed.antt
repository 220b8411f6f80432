-- The truncations that a life proposes, one after another.
use Rattle.std.specs.Prelude.{◌≡◌, ℕ, suc, ◌<◌, ◌⊎◌, true}
use Rattle.volume.specs.declared.phases.Phase.{Phase}
use Rattle.volume.specs.declared.phases.Phase.TheVariants as phase
use Rattle.volume.specs.declared.phases.Stage.{Stage}
use Rattle.volume.specs.declared.phases.Stage.TheVariants as stage
use Rattle.volume.specs.declared.plans.CutPlan.{CutPlan}
use Rattle.volume_theorems.specs.Runs.{VolumeRun}
use Rattle.volume_engines.specs.Lives.{Life, Guards, IsLife}

-- the plan is proposed at this stage
abbrev pub IsPlanOf : Stage → CutPlan → Type 0
IsPlanOf (stage.Proposing own accepted) plan = own ≡ plan
IsPlanOf other plan = ⊥

-- in this phase
abbrev pub IsPlanIn : Phase → CutPlan → Type 0
IsPlanIn (phase.Opening o) plan = IsPlanOf o.stage plan
IsPlanIn other plan = ⊥

-- after step n the machine proposes the plan
abbrev pub ProposesAt : Life → ℕ → CutPlan → Type 0
ProposesAt life n plan = IsPlanIn (life.states (suc n)).phase plan

-- the first plan is the second one, or it was pending and is of an earlier epoch
abbrev pub IsPlanUpTo : CutPlan → CutPlan → Type 0
IsPlanUpTo old plan = (old ≡ plan) ⊎ ((old.is_pending ≡ true) × (old.cut.epoch < plan.cut.epoch))

-- Of one epoch a life proposes one truncation: epochs rise from one plan to the next, and only the last one may be the engine's own.
abbrev pub PlansInOrder : Type 0
PlansInOrder =
    (run : VolumeRun) (guards : Guards) (e : ℕ) (life : Life) (count : ℕ) → IsLife run guards e life count
    → (m n : ℕ) (old plan : CutPlan) → m < n → n < count → ProposesAt life m old → ProposesAt life n plan → IsPlanUpTo old plan
