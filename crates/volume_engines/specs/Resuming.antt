-- An opening begins with a writer that goes on from the log.
use Rattle.std.specs.Prelude.{◌≡◌, ℕ, suc, ◌<◌, List}
use Rattle.redo_core.specs.declared.facts.Fact.{Fact}
use Rattle.replica.specs.Parts.{ReplicaData}
use Rattle.volume.specs.declared.phases.Opening.{Opening}
use Rattle.volume.specs.declared.phases.Phase.TheVariants as phase
use Rattle.volume.specs.declared.phases.Writing.{Writing}
use Rattle.volume_theorems.specs.Nodes.{Content}
use Rattle.volume_theorems.specs.Runs.{VolumeRun}
use Rattle.volume_logs.specs.Histories.{History, log_to}
use Rattle.volume_logs.specs.Emitting.{LacksAdvances, GoesOn}
use Rattle.volume_engines.specs.Lives.{Life, Guards}
use Rattle.volume_engines.specs.Proposals.{IsLifeIn}
use Rattle.volume_engines.specs.Emissions.{HasEmissions}

-- step n of the life opens epoch k + 1
pub record OpensAt (life : Life) (n k : ℕ) : Type 0 where
  pub opening : Opening
  pub was : (life.states n).phase ≡ phase.Opening opening
  pub writing : Writing
  pub opens : (life.states (suc n)).phase ≡ phase.Open writing
  pub epoch : writing.cut.epoch ≡ suc k

-- Then its writer goes on from the epochs below: what its quorum had when it proposed the epoch has nothing of later ones.
abbrev pub OpeningsGoOn : Type 0
OpeningsGoOn =
    (run : VolumeRun) (h : History) (stop : ℕ) (content : ReplicaData → Content) (guards : Guards) (e : ℕ) (life : Life) (count : ℕ)
    → IsLifeIn run h stop content guards e life count
    → (n k : ℕ) → n < count → (at : OpensAt life n k) → HasEmissions h life count stop (suc k)
    → (base : List Fact) × LacksAdvances base (log_to h (life.moments n) k) × GoesOn h.readers at.writing.writer base (h.cuts (suc k))
