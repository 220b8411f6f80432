-- An engine that only steps its machine has only chosen truncations taken, and opens an epoch when its own truncation is chosen.
use Rattle.std.specs.Prelude.{◌≡◌, ℕ, ◌<◌, ◌≤◌}
use Rattle.std.specs.List.{Contains}
use Rattle.redo_core.specs.Data.{CutData}
use Rattle.redo_core.specs.declared.facts.Fact.TheVariants.{Cut}
use Rattle.replica.specs.Parts.{ReplicaData}
use Rattle.replica.specs.declared.requests.Request.TheVariants as segment
use Rattle.guard.specs.declared.requests.Request.TheVariants as request
use Rattle.volume.specs.declared.actions.Action.{Action}
use Rattle.volume.specs.declared.actions.Action.TheVariants.{Ask, Opened}
use Rattle.volume_theorems.specs.Nodes.{Content}
use Rattle.volume_theorems.specs.Runs.{VolumeRun}
use Rattle.volume_theorems.specs.Opening.{IsCutSent}
use Rattle.volume_theorems.specs.ByMoment.{IsDurableBy}
use Rattle.volume_logs.specs.Histories.{History}
use Rattle.volume_engines.specs.Lives.{Life, Guards}
use Rattle.volume_engines.specs.Proposals.{IsLifeIn}

-- When a step asks a node to take a truncation, a quorum has accepted it.
abbrev pub TakesKeepRules : Type 0
TakesKeepRules =
    (run : VolumeRun) (h : History) (stop : ℕ) (content : ReplicaData → Content) (guards : Guards) (e : ℕ) (life : Life) (count : ℕ)
    → IsLifeIn run h stop content guards e life count
    → (n node generation birth t : ℕ) (cut : CutData) → n < count
    → Contains (life.actions n) (Ask node (request.As generation birth (segment.Take (Cut cut)))) → life.moments n ≤ t → IsCutSent run t cut

-- the action reports that the volume is open, in this epoch and up to this point
abbrev pub IsOpening : Action → ℕ → ℕ → Type 0
IsOpening (Opened own at header) epoch point = (own ≡ epoch) × (at ≡ point)
IsOpening other epoch point = ⊥

-- When a step reports that the volume is open, the engine has opened the epoch, and the point is durable.
abbrev pub OpeningsAreDurable : Type 0
OpeningsAreDurable =
    (run : VolumeRun) (h : History) (stop : ℕ) (content : ReplicaData → Content) (guards : Guards) (e : ℕ) (life : Life) (count : ℕ)
    → IsLifeIn run h stop content guards e life count
    → (n epoch point t : ℕ) (a : Action) → n < count → Contains (life.actions n) a → IsOpening a epoch point → life.moments n ≤ t
    → IsDurableBy run t e epoch point

-- Two lives that report one epoch as open are of one engine, and report one point.
abbrev pub OneLifeOpens : Type 0
OneLifeOpens =
    (run : VolumeRun) (h : History) (stop : ℕ) (content : ReplicaData → Content) (guards : Guards) (e f : ℕ) (life other : Life) (count more : ℕ)
    → IsLifeIn run h stop content guards e life count → IsLifeIn run h stop content guards f other more
    → (m n epoch one two : ℕ) (a b : Action) → m < count → n < more → Contains (life.actions m) a → Contains (other.actions n) b
    → IsOpening a epoch one → IsOpening b epoch two → (e ≡ f) × (one ≡ two)

-- What one life reports as open, no truncation of a later epoch annuls that another life has nodes take.
abbrev pub OpeningsLast : Type 0
OpeningsLast =
    (run : VolumeRun) (h : History) (stop : ℕ) (content : ReplicaData → Content) (guards : Guards) (e f : ℕ) (life other : Life) (count more : ℕ)
    → IsLifeIn run h stop content guards e life count → IsLifeIn run h stop content guards f other more
    → (m n epoch point node generation birth : ℕ) (a : Action) (cut : CutData) → m < count → n < more → Contains (life.actions m) a
    → IsOpening a epoch point → Contains (other.actions n) (Ask node (request.As generation birth (segment.Take (Cut cut)))) → epoch < cut.epoch
    → point ≤ cut.lo
