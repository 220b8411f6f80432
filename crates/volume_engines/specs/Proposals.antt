-- An engine that only steps its machine proposes as the protocol allows.
use Rattle.std.specs.Prelude.{◌≡◌, ℕ, ◌<◌, ◌≤◌}
use Rattle.std.specs.List.{Contains}
use Rattle.redo_core.specs.Data.{CutData}
use Rattle.replica.specs.Parts.{ReplicaData}
use Rattle.guard.specs.declared.requests.Request.TheVariants as request
use Rattle.volume.specs.declared.actions.Action.TheVariants.{Ask}
use Rattle.volume_theorems.specs.Nodes.{Content}
use Rattle.volume_theorems.specs.Runs.{VolumeRun}
use Rattle.volume_theorems.specs.Proposing.{MayPropose}
use Rattle.volume_theorems.specs.Stopping.{FollowsUntil}
use Rattle.volume_logs.specs.Histories.{History}
use Rattle.volume_logs.specs.Emitting.{IsEmitted}
use Rattle.volume_engines.specs.Lives.{Life, Guards, IsLife}
use Rattle.volume_engines.specs.World.{HasGuards}
use Rattle.volume_engines.specs.Engines.{IsEngineOf}

-- A life of engine e in a run that keeps the rules up to the moment `stop`, as far as its steps come before that.
pub record IsLifeIn (run : VolumeRun) (h : History) (stop : ℕ) (content : ReplicaData → Content) (guards : Guards) (e : ℕ) (life : Life) (count : ℕ) : Type 0 where
  pub follows : FollowsUntil run stop
  pub emitted : IsEmitted run h stop
  pub guarded : HasGuards run h stop content guards
  pub lives : IsLife run guards e life count
  pub readers : (life.states 0).settings.roster ≡ h.readers
  pub names : IsEngineOf life count (run.engines e)
  pub upto : (n : ℕ) → n < count → life.moments n ≤ stop

-- What a step proposes the rules let this engine propose, from the moment of the step on.
abbrev pub ProposalsKeepRules : Type 0
ProposalsKeepRules =
    (run : VolumeRun) (h : History) (stop : ℕ) (content : ReplicaData → Content) (guards : Guards) (e : ℕ) (life : Life) (count : ℕ)
    → IsLifeIn run h stop content guards e life count
    → (n node generation birth t : ℕ) (cut : CutData) → n < count → Contains (life.actions n) (Ask node (request.Propose generation birth cut))
    → life.moments n ≤ t → ((run.engines e).cuts cut.epoch ≡ cut) × MayPropose run e cut.epoch t
