-- A replica that is put together again from a snapshot, and what has come since.
use Rattle.std.specs.Prelude.{◌≡◌, ℕ, List}
use Rattle.std.specs.List.{AllByRecursion}
use Rattle.redo_core.specs.Sound.{IsSound}
use Rattle.redo_core.specs.declared.facts.Fact.{Fact}
use Rattle.messages.specs.Pieces.{PieceData}
use Rattle.segment_theorems.specs.State.{State}
use Rattle.segment_theorems.specs.Means.{Means}
use Rattle.snapshot.specs.Snapshots.{SnapshotData, Freezes, IsPieceOf}
use Rattle.replica.specs.declared.requests.Request.TheVariants as request
use Rattle.replica.specs.declared.replies.Reply.{Reply}
use Rattle.replica.specs.declared.replies.Reply.TheVariants as reply
use Rattle.replica.specs.Parts.{ReplicaData}
use Rattle.replica.specs.Machine.{IsReply}
use Rattle.replica.specs.Meaning.{Turn, Runs, RunsIn, facts_after_all, ReplicaMeans}

-- the turn adds a piece of the snapshot, whatever is replied
abbrev pub AddsPieceOf : SnapshotData → Turn → Type 0
AddsPieceOf d t = (p : PieceData) × IsPieceOf d p × (t.asked ≡ request.Add p)

-- Whatever the replica was: a staging for a snapshot is begun, pieces of that are added in any order and with repeats, the staging is
-- finished, and what has come since comes again or for the first time.
pub record Restarts (roster : ℕ) (log : List Fact) (d : SnapshotData) (old : ReplicaData) (since : List Turn) (new : ReplicaData) : Type 0 where
  pub staged : ReplicaData
  pub filled : ReplicaData
  pub restored : ReplicaData
  pub begun : Reply
  pub begins : IsReply old (request.Stage d.name d.total) begun staged
  pub adds : List Turn
  pub of_snapshot : AllByRecursion (AddsPieceOf d) adds
  pub fills : Runs staged adds filled
  pub finishes : IsReply filled request.Finish reply.Restored restored
  pub goes_on : RunsIn roster log restored since new

-- Where the snapshot was of a state that meant some facts of a sound log, the replica means those and what has come since.
abbrev pub RestartMeans : Type 0
RestartMeans =
    (roster : ℕ) (log facts : List Fact) (s : State) (d : SnapshotData) (old : ReplicaData) (since : List Turn) (new : ReplicaData)
    → IsSound roster log → Means roster log facts s → Freezes s d → Restarts roster log d old since new
    → ReplicaMeans roster log (facts_after_all facts since) new
