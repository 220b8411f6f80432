-- An engine that only steps its machine admits nodes as the protocol allows, and so keeps what it asks of engines.
use Rattle.std.specs.Prelude.{ℕ, ◌<◌, ◌≤◌}
use Rattle.std.specs.List.{Contains}
use Rattle.replica.specs.Parts.{ReplicaData}
use Rattle.guard.specs.declared.requests.Admission.{Admission}
use Rattle.guard.specs.declared.requests.Request.{Request}
use Rattle.guard.specs.declared.requests.Request.TheVariants as request
use Rattle.volume.specs.declared.actions.Action.TheVariants.{Ask}
use Rattle.volume_theorems.specs.Nodes.{Content}
use Rattle.volume_theorems.specs.Runs.{VolumeRun}
use Rattle.volume_guards.specs.Guards.{IsLaterAdmission, IsAllowed}
use Rattle.volume_logs.specs.Histories.{History}
use Rattle.volume_engines.specs.Lives.{Life, Guards}
use Rattle.volume_engines.specs.Proposals.{IsLifeIn}

-- Whenever a node executes an admission that a step has sent, the rules let this engine admit it, if it is as the admission asks.
abbrev pub AdmissionsKeepRules : Type 0
AdmissionsKeepRules =
    (run : VolumeRun) (h : History) (stop : ℕ) (content : ReplicaData → Content) (guards : Guards) (e : ℕ) (life : Life) (count : ℕ)
    → IsLifeIn run h stop content guards e life count
    → (n node t : ℕ) (asked : Admission) → n < count → Contains (life.actions n) (Ask node (request.Admit asked))
    → life.moments n ≤ t → t ≤ stop → IsLaterAdmission run t node (guards t node) asked

-- Whenever a node executes a request that a step has sent, it is one that the rules allow some engine to send.
abbrev pub RequestsKeepRules : Type 0
RequestsKeepRules =
    (run : VolumeRun) (h : History) (stop : ℕ) (content : ReplicaData → Content) (guards : Guards) (e : ℕ) (life : Life) (count : ℕ)
    → IsLifeIn run h stop content guards e life count
    → (n node t : ℕ) (asked : Request) → n < count → Contains (life.actions n) (Ask node asked)
    → life.moments n ≤ t → t ≤ stop → IsAllowed run t node (guards t node) asked
