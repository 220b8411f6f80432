-- The nodes of a run as guards, each with a part of the log.
use Rattle.std.specs.Prelude.{◌≡◌, ℕ, ◌≤◌, List}
use Rattle.redo_core.specs.declared.facts.Fact.{Fact}
use Rattle.segment_theorems.specs.Means.{Means}
use Rattle.replica.specs.Parts.{ReplicaData}
use Rattle.guard.specs.Data.{GuardData}
use Rattle.volume_theorems.specs.Nodes.{Content}
use Rattle.volume_theorems.specs.Runs.{VolumeRun}
use Rattle.volume_theorems.specs.Contents.{IsContentOf}
use Rattle.volume_guards.specs.Guards.{as_node}
use Rattle.volume_logs.specs.Histories.{History, log_at}
use Rattle.volume_engines.specs.Lives.{Guards}

-- the guard's segment means a part of the log, whose content it has
pub record HoldsPart (h : History) (t : ℕ) (content : ReplicaData → Content) (g : GuardData) : Type 0 where
  pub part : List Fact
  pub means : Means h.readers (log_at h t) part g.replica.cached.segment
  pub has : IsContentOf part (content g.replica)

-- Up to the moment `stop` each node of the run is a guard. What its segment means is of the log: no fact comes from elsewhere.
pub record HasGuards (run : VolumeRun) (h : History) (stop : ℕ) (content : ReplicaData → Content) (guards : Guards) : Type 0 where
  pub nodes : (t i : ℕ) → t ≤ stop → run.nodes t i ≡ as_node content (guards t i)
  pub holds : (t i : ℕ) → t ≤ stop → HoldsPart h t content (guards t i)
