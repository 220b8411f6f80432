-- A life of an engine: the steps of its machine from an opening on, each at a moment of a run.
use Rattle.std.specs.Prelude.{◌≡◌, ℕ, suc, ◌<◌, ◌≤◌, List}
use Rattle.std.specs.List.{Contains}
use Rattle.guard.specs.declared.requests.Request.{Request}
use Rattle.guard.specs.declared.replies.Reply.{Reply}
use Rattle.guard.specs.declared.replies.Reply.TheVariants as reply
use Rattle.guard.specs.Data.{GuardData}
use Rattle.guard.specs.Guarding.{IsGuardReply}
use Rattle.volume.specs.declared.actions.Action.{Action}
use Rattle.volume.specs.declared.actions.Action.TheVariants.{Ask}
use Rattle.volume.specs.declared.events.Event.{Event}
use Rattle.volume.specs.declared.events.Event.TheVariants as event
use Rattle.volume.specs.Data.{VolumeData}
use Rattle.volume.specs.Settings.{IsSettings}
use Rattle.volume.specs.Stepping.{IsVolumeStep}
use Rattle.volume_theorems.specs.Runs.{VolumeRun, MakesMove}
use Rattle.volume_theorems.specs.Runs.Move.{IsFenced, Accepts, IsAdmitted}

-- The machine before each step, what happens to it and what it asks then, and when. Where a step hears a reply, `given` is the moment at which
-- the node gave it.
pub record Life : Type 0 where
  pub generation : ℕ
  pub states : ℕ → VolumeData
  pub events : ℕ → Event
  pub actions : ℕ → List Action
  pub moments : ℕ → ℕ
  pub given : ℕ → ℕ

-- the guards of the nodes at each moment
abbrev pub Guards : Type 0
Guards = ℕ → ℕ → GuardData

-- the life has sent the request to the node in a step before step n, by the moment t
abbrev pub WasSent : Life → ℕ → ℕ → ℕ → Request → Type 0
WasSent life n t node asked = (m : ℕ) × (m < n) × (life.moments m ≤ t) × Contains (life.actions m) (Ask node asked)

-- where the reply says that the node has executed a request of an engine, this is a move of that engine
abbrev pub MovesAs : VolumeRun → ℕ → ℕ → ℕ → Reply → Type 0
MovesAs run t i e (reply.Fenced generation birth accepted) = MakesMove run t i (IsFenced e)
MovesAs run t i e (reply.Accepted generation birth epoch) = MakesMove run t i (Accepts e epoch)
MovesAs run t i e (reply.Admitted generation birth) = MakesMove run t i (IsAdmitted e)
MovesAs run t i e told = Unit {0}

-- What a network may deliver, late or repeated: the node's guard gave the reply, at an earlier moment, to a request that this life had sent it.
pub record WasGiven (run : VolumeRun) (guards : Guards) (e : ℕ) (life : Life) (n node : ℕ) (told : Reply) : Type 0 where
  pub before : life.given n < life.moments n
  pub asked : Request
  pub sent : WasSent life n (life.given n) node asked
  pub replies : IsGuardReply (guards (life.given n) node) asked told (guards (suc (life.given n)) node)
  pub moved : MovesAs run (life.given n) node e told

-- what may happen to a machine after it has begun to open: connections break at any time, and another opening is another life
abbrev pub MayHappen : VolumeRun → Guards → ℕ → Life → ℕ → Event → Type 0
MayHappen run guards e life n (event.Answered node told) = WasGiven run guards e life n node told
MayHappen run guards e life n (event.Open generation) = generation ≤ life.generation
MayHappen run guards e life n other = Unit {0}

-- The first `count` steps are those of a machine that opens the volume of the run, as engine e, under a generation above its earlier ones.
pub record IsLife (run : VolumeRun) (guards : Guards) (e : ℕ) (life : Life) (count : ℕ) : Type 0 where
  pub nodes : (life.states 0).settings.nodes ≡ run.roster
  pub quorum : (life.states 0).settings.quorum ≡ run.quorum
  pub settings : IsSettings (life.states 0).settings.nodes (life.states 0).settings.quorum
  pub opens : life.events 0 ≡ event.Open life.generation
  pub above : (life.states 0).generation < life.generation
  pub steps : (n : ℕ) → n < count → IsVolumeStep (life.states n) (life.events n) (life.actions n) (life.states (suc n))
  pub in_time : (n : ℕ) → suc n < count → life.moments n ≤ life.moments (suc n)
  pub heard : (n : ℕ) → suc n < count → MayHappen run guards e life (suc n) (life.events (suc n))
