-- Runs that follow the rules before a moment: what was done until then follows from the rules until then.
use Rattle.std.specs.Prelude.{◌≡◌, ◌≢◌, ℕ, suc, ◌+◌, ◌<◌, min, nat_lt, if◌then◌else◌}
use Rattle.volume_theorems.specs.Nodes.{HasNothing}
use Rattle.volume_theorems.specs.Runs.{VolumeRun}
use Rattle.volume_theorems.specs.Runs.Move.{Rests}
use Rattle.volume_theorems.specs.Protocol.{Moves, FollowsProtocol}

-- the rules of the protocol, for the moves before the moment `stop`
pub record FollowsUntil (run : VolumeRun) (stop : ℕ) : Type 0 where
  pub overlap : run.roster < run.quorum + run.quorum
  pub begins : (i : ℕ) → HasNothing (run.nodes 0 i)
  pub moves : (t : ℕ) → t < stop → Moves run t (run.actor t) (run.moves t) (run.nodes t (run.actor t)) (run.nodes (suc t) (run.actor t))
  pub others : (t i : ℕ) → t < stop → i ≢ run.actor t → run.nodes (suc t) i ≡ run.nodes t i

-- the same run, in which from the moment on every node rests
abbrev pub stopped : VolumeRun → ℕ → VolumeRun
stopped run stop = record {
  roster = run.roster;
  quorum = run.quorum;
  engines = run.engines;
  actor = run.actor;
  moves = λ t. if nat_lt t stop then run.moves t else Rests;
  nodes = λ t. run.nodes (min t stop);
}

-- The stopped run follows all rules: no rule about a move speaks of a later moment.
abbrev pub StoppedFollows : Type 0
StoppedFollows = (run : VolumeRun) (stop : ℕ) → FollowsUntil run stop → FollowsProtocol (stopped run stop)

-- What follows the rules follows them before each moment.
abbrev pub FollowsEach : Type 0
FollowsEach = (run : VolumeRun) (stop : ℕ) → FollowsProtocol run → FollowsUntil run stop

-- One more move by the rules.
abbrev pub FollowsOn : Type 0
FollowsOn =
    (run : VolumeRun) (t : ℕ) → FollowsUntil run t
    → Moves run t (run.actor t) (run.moves t) (run.nodes t (run.actor t)) (run.nodes (suc t) (run.actor t))
    → ((i : ℕ) → i ≢ run.actor t → run.nodes (suc t) i ≡ run.nodes t i) → FollowsUntil run (suc t)

-- A run of the rules at each moment: whoever shows from what was done until then that the next move keeps them has shown it of the whole run.
abbrev pub FollowsAll : Type 0
FollowsAll = (run : VolumeRun) → ((t : ℕ) → FollowsUntil run t) → FollowsProtocol run
