-- What a life reports is durable.
use Rattle.std.specs.Prelude.{◌≡◌, ℕ, ◌<◌}
use Rattle.std.specs.List.{Contains}
use Rattle.replica.specs.Parts.{ReplicaData}
use Rattle.volume.specs.declared.actions.Action.TheVariants.{Durable}
use Rattle.volume.specs.declared.phases.Phase.TheVariants as phase
use Rattle.volume.specs.declared.phases.Writing.{Writing}
use Rattle.volume_theorems.specs.Nodes.{Content}
use Rattle.volume_theorems.specs.Runs.{VolumeRun}
use Rattle.volume_theorems.specs.ByMoment.{IsDurableBy}
use Rattle.volume_logs.specs.Histories.{History}
use Rattle.volume_engines.specs.Lives.{Life, Guards}
use Rattle.volume_engines.specs.Proposals.{IsLifeIn}
use Rattle.volume_engines.specs.Emissions.{HasEmissions}

-- Where the history has what the life emits, a point that a step reports as durable is durable in the run, from the moment of the step on.
abbrev pub ReportsAreDurable : Type 0
ReportsAreDurable =
    (run : VolumeRun) (h : History) (stop : ℕ) (content : ReplicaData → Content) (guards : Guards) (e : ℕ) (life : Life) (count : ℕ)
    → IsLifeIn run h stop content guards e life count
    → (n point : ℕ) (w : Writing) → n < count → (life.states n).phase ≡ phase.Open w → HasEmissions h life count stop w.cut.epoch
    → Contains (life.actions n) (Durable point) → IsDurableBy run (life.moments n) e w.cut.epoch point
