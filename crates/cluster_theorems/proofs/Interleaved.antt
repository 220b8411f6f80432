-- Streams make the turns of a cluster.
use Rattle.std.proofs.Common.{ℕ, List, [], ◌∷◌, Bool, true, false, sym, subst}
use Rattle.std.specs.List.{AllZip}
use Rattle.redo_core.specs.Sound.{IsSound}
use Rattle.redo_core.specs.declared.facts.Fact.{Fact}
use Rattle.segment_theorems.specs.AnswersAs.{StatesAnswer}
use Rattle.replica.specs.declared.requests.Request.{Request}
use Rattle.replica.specs.declared.replies.Reply.{Reply}
use Rattle.replica.specs.Machine.{IsReply}
use Rattle.replica.specs.Parts.{ReplicaData, empty_replica}
use Rattle.replica.specs.Meaning.{Turn, Runs}
use Rattle.guard.specs.Data.{GuardData, fresh_guard}
use Rattle.node_stream.specs.Running.{AnswersRun, FramesRun, Run}
use Rattle.cluster_theorems.specs.Turns.{turns_of, SameTurn, Interleaves}
use Rattle.cluster_theorems.specs.Carrying.{AreCarried}
use Rattle.cluster_theorems.specs.Following.{FollowsFacts}
use Rattle.cluster_theorems.specs.Streams.{spoken, AnswersStream, StreamsFollow}
use Rattle.cluster_theorems.proofs.Followed.{cluster_follows}

-- whatever turns are said to bring, the replica goes the same way
run_alike : (old : ReplicaData) (turns others : List Turn) (new : ReplicaData) → AllZip SameTurn turns others → Runs old turns new → Runs old others new
run_alike old [] [] new same runs = runs
run_alike old [] (u ∷ others) new same runs = absurd same
run_alike old (t ∷ turns) [] new same runs = absurd same
run_alike old (t ∷ turns) (u ∷ others) new same runs = (
  runs.0,
  subst (λ (r : Reply). IsReply old u.asked r runs.0) (sym same.0.1) (subst (λ (a : Request). IsReply old a t.told runs.0) (sym same.0.0) runs.1),
  run_alike runs.0 turns others new same.1 runs.2,
)

pub interleaved_follow : StatesAnswer → (roster : ℕ) (log : List Fact) (pages : ℕ → ℕ) (made : ℕ → List Turn) (nodes : ℕ → ReplicaData) → IsSound roster log
    → ((node : ℕ) → Runs (empty_replica roster (pages node)) (made node) (nodes node)) → (turns : List (ℕ × Turn)) → Interleaves made turns
    → AreCarried roster log turns → FollowsFacts roster log turns nodes
interleaved_follow answer roster log pages made nodes sound runs turns same carried =
    cluster_follows answer roster log pages turns nodes sound
    (λ node. run_alike (empty_replica roster (pages node)) (made node) (turns_of node turns) (nodes node) (same node) (runs node)) carried

stream_run : AnswersRun → FramesRun → (framed : Bool) (limit : ℕ) (old : GuardData) (requests texts : List (List ℕ)) (new : GuardData)
    → AnswersStream framed limit old requests texts new → Run (spoken framed) (λ old asked. []) limit old requests texts new
stream_run lines frames true limit old requests texts new answered = frames (λ old asked. []) limit old requests texts new answered
stream_run lines frames false limit old requests texts new answered = lines (λ old asked. []) limit old requests texts new answered

pub streams_follow : AnswersRun → FramesRun → StatesAnswer → StreamsFollow
streams_follow lines frames answer roster limit log pages births framed requests texts nodes sound answered =
    let one = λ (node : ℕ).
    stream_run lines frames (framed node) limit (fresh_guard (empty_replica roster (pages node)) (births node)) (requests node) (texts node) (nodes node)
    (answered node) in (
      λ node. (one node).0,
      λ node. ((one node).3).own,
      λ node. (one node).2,
      λ node. ((one node).3).are,
      interleaved_follow answer roster log pages (λ node. ((one node).3).own) (λ node. (nodes node).replica) sound (λ node. ((one node).3).runs),
    )
