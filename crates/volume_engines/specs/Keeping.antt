-- In a run of guards and machines no later truncation annuls what was reported as durable.
use Rattle.std.specs.Prelude.{◌≡◌, ℕ, ◌<◌, ◌≤◌}
use Rattle.std.specs.List.{Contains}
use Rattle.redo_core.specs.Data.{CutData}
use Rattle.replica.specs.Parts.{ReplicaData}
use Rattle.volume.specs.declared.actions.Action.TheVariants.{Durable}
use Rattle.volume.specs.declared.phases.Phase.TheVariants as phase
use Rattle.volume.specs.declared.phases.Writing.{Writing}
use Rattle.volume_theorems.specs.Nodes.{Content}
use Rattle.volume_theorems.specs.Runs.{VolumeRun}
use Rattle.volume_theorems.specs.Opening.{IsCutSent}
use Rattle.volume_logs.specs.Histories.{History}
use Rattle.volume_engines.specs.Lives.{Life, Guards, IsLife}
use Rattle.volume_engines.specs.Engines.{IsEngineOf}
use Rattle.volume_engines.specs.Emissions.{HasEmissions}
use Rattle.volume_engines.specs.Running.{IsRunOfMachines}

-- a life of engine e, with steps up to the moment `stop`
pub record LivesBy (run : VolumeRun) (h : History) (stop : ℕ) (guards : Guards) (e : ℕ) (life : Life) (count : ℕ) : Type 0 where
  pub lives : IsLife run guards e life count
  pub readers : (life.states 0).settings.roster ≡ h.readers
  pub names : IsEngineOf life count (run.engines e)
  pub upto : (n : ℕ) → n < count → life.moments n ≤ stop

-- What such a life reports as durable, no truncation of a later epoch annuls that any engine has sent: each later epoch keeps it.
abbrev pub ReportsLast : Type 0
ReportsLast =
    (run : VolumeRun) (h : History) (stop : ℕ) (content : ReplicaData → Content) (guards : Guards) (e : ℕ) (life : Life) (count : ℕ)
    → IsRunOfMachines run h stop content guards → LivesBy run h stop guards e life count
    → (n point : ℕ) (w : Writing) (cut : CutData) → n < count → (life.states n).phase ≡ phase.Open w → HasEmissions h life count stop w.cut.epoch
    → Contains (life.actions n) (Durable point) → IsCutSent run stop cut → w.cut.epoch < cut.epoch → point ≤ cut.lo
