-- The nodes of a cluster follow the facts that reach them, whatever a network does with their replies.
use Rattle.std.specs.Prelude.{◌≡◌, ℕ, List, ◌∷◌, ◌++◌}
use Rattle.redo_core.specs.Sets.{SameSet}
use Rattle.redo_core.specs.Sound.{IsSound}
use Rattle.redo_core.specs.declared.facts.Fact.{Fact}
use Rattle.segment_theorems.specs.AnswersAs.{AnswersAs}
use Rattle.replica.specs.declared.requests.Request.{Request}
use Rattle.replica.specs.declared.requests.Request.TheVariants as request
use Rattle.replica.specs.declared.replies.Reply.TheVariants as reply
use Rattle.replica.specs.Parts.{ReplicaData, empty_replica}
use Rattle.replica.specs.Machine.{IsReply}
use Rattle.replica.specs.Meaning.{Turn, Runs, ReplicaMeans}
use Rattle.cluster_theorems.specs.Turns.{turns_of, facts_at, begun_at}
use Rattle.cluster_theorems.specs.Carrying.{AreCarried}
use Rattle.cluster_theorems.specs.Replying.{RepliesAs}

-- each node's turns are those of its replica, which began empty, for the roster, with a cache of at most so many images
abbrev pub AreTurnsOf : ℕ → (ℕ → ℕ) → List (ℕ × Turn) → (ℕ → ReplicaData) → Type 0
AreTurnsOf roster pages turns nodes = (node : ℕ) → Runs (empty_replica roster (pages node)) (turns_of node turns) (nodes node)

-- A replica that nothing has reached, and that was opened for the roster, is such an empty one.
abbrev pub OpenedIsEmpty : Type 0
OpenedIsEmpty =
    (readers roster pages : ℕ) (new : ReplicaData) → IsReply (empty_replica readers pages) (request.Open roster) reply.Opened new
    → new ≡ empty_replica roster pages

-- After the turns each node means the facts that have reached it, and answers as these; and each reply in them was that of the facts that
-- had reached its node by then.
pub record FollowsFacts (roster : ℕ) (log : List Fact) (turns : List (ℕ × Turn)) (nodes : ℕ → ReplicaData) : Type 0 where
  pub means : (node : ℕ) → ReplicaMeans roster log (facts_at turns node) (nodes node)
  pub answers : (node : ℕ) → AnswersAs roster log (facts_at turns node) (nodes node).cached.segment
  pub replies : (before after : List (ℕ × Turn)) (node : ℕ) (t : Turn) → turns ≡ before ++ (node, t) ∷ after
      → RepliesAs roster log (facts_at before node) (begun_at before node) t.asked t.told

-- Over a sound log any number of nodes follow the facts, whatever turns they have, where each is carried by those before it. The first
-- turns of such a run are one too, so it is so at each moment.
abbrev pub ClusterFollows : Type 0
ClusterFollows =
    (roster : ℕ) (log : List Fact) (pages : ℕ → ℕ) (turns : List (ℕ × Turn)) (nodes : ℕ → ReplicaData)
    → IsSound roster log → AreTurnsOf roster pages turns nodes → AreCarried roster log turns → FollowsFacts roster log turns nodes

-- a front or a read is asked for
abbrev pub IsRead : Request → Type 0
IsRead request.Front = Unit {0}
IsRead (request.Read page point) = Unit {0}
IsRead asked = ⊥

-- Two nodes that the same facts have reached, each at its own moment of a run, reply the same to a front and to a read, unless memory runs
-- out.
abbrev pub SameReplies : Type 0
SameReplies =
    (roster : ℕ) (log : List Fact) (pages : ℕ → ℕ) (turns : List (ℕ × Turn)) (nodes : ℕ → ReplicaData)
    → IsSound roster log → AreTurnsOf roster pages turns nodes → AreCarried roster log turns
    → (before after others later : List (ℕ × Turn)) (node other : ℕ) (t u : Turn)
    → turns ≡ before ++ (node, t) ∷ after → turns ≡ others ++ (other, u) ∷ later → SameSet (facts_at before node) (facts_at others other)
    → IsRead t.asked → u.asked ≡ t.asked → (t.told ≡ reply.Memory → ⊥) → (u.told ≡ reply.Memory → ⊥) → t.told ≡ u.told
