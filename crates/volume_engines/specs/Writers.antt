-- What a life emits, the rules let the writer of its epoch emit.
use Rattle.std.specs.Prelude.{ℕ, suc, ◌^◌, ◌<◌}
use Rattle.redo_core.specs.Shape.{epoch_count}
use Rattle.replica.specs.Parts.{ReplicaData}
use Rattle.volume_theorems.specs.Nodes.{Content}
use Rattle.volume_theorems.specs.Runs.{VolumeRun}
use Rattle.volume_logs.specs.Histories.{History}
use Rattle.volume_logs.specs.Emitting.{IsWriter}
use Rattle.volume_engines.specs.Lives.{Life, Guards}
use Rattle.volume_engines.specs.Proposals.{IsLifeIn}
use Rattle.volume_engines.specs.Emissions.{HasEmissions}
use Rattle.volume_engines.specs.Resuming.{OpensAt}

-- Where the rules were kept up to the moment `stop`, and the history then has what such a life emits, the life's engine writes the epoch that
-- one of the steps opens by the rules one moment more. Generation and epoch fit into the bytes that page 0 has for them, as numbers of their types.
abbrev pub EmissionsKeepRules : Type 0
EmissionsKeepRules =
    (run : VolumeRun) (h : History) (stop : ℕ) (content : ReplicaData → Content) (guards : Guards) (e : ℕ) (life : Life) (count : ℕ)
    → IsLifeIn run h stop content guards e life count → life.generation < 2 ^ 64
    → (n k : ℕ) → n < count → OpensAt life n k → suc k < epoch_count → HasEmissions h life count (suc stop) (suc k) → IsWriter run h (suc stop) k e
