-- A run of guards and lives goes on by the rules, one request after another.
use Rattle.std.specs.Prelude.{◌≡◌, ◌≢◌, ℕ, suc, ◌<◌, List}
use Rattle.std.specs.List.{Contains}
use Rattle.redo_core.specs.declared.facts.Fact.{Fact}
use Rattle.segment_theorems.specs.Means.{Means}
use Rattle.replica.specs.Parts.{ReplicaData}
use Rattle.replica.specs.declared.requests.Request.{Request as SegmentRequest}
use Rattle.replica.specs.declared.requests.Request.TheVariants as segment
use Rattle.guard.specs.declared.requests.Request.{Request}
use Rattle.guard.specs.declared.requests.Request.TheVariants as request
use Rattle.guard.specs.declared.replies.Reply.{Reply}
use Rattle.guard.specs.declared.replies.Reply.TheVariants as reply
use Rattle.guard.specs.Guarding.{IsGuardReply}
use Rattle.volume.specs.declared.actions.Action.TheVariants.{Ask}
use Rattle.volume.specs.declared.phases.Phase.TheVariants as phase
use Rattle.volume.specs.declared.phases.Writing.{Writing}
use Rattle.volume_theorems.specs.Nodes.{Content}
use Rattle.volume_theorems.specs.Runs.{VolumeRun, Move}
use Rattle.volume_theorems.specs.Runs.Move.{Rests, Learns, IsReplaced, IsFenced, Accepts, IsAdmitted}
use Rattle.volume_theorems.specs.Contents.{IsContentOf}
use Rattle.volume_theorems.specs.Stopping.{FollowsUntil}
use Rattle.volume_guards.specs.Guards.{as_node}
use Rattle.volume_logs.specs.Histories.{History, log_at}
use Rattle.volume_engines.specs.Lives.{Life, Guards}
use Rattle.volume_engines.specs.Proposals.{IsLifeIn}
use Rattle.volume_engines.specs.Emissions.{HasEmissions}

abbrev pub plain_move : SegmentRequest → Move
plain_move (segment.Open roster) = IsReplaced
plain_move segment.Finish = IsReplaced
plain_move asked = Learns

-- the move of a node that replies so to a request of engine e
abbrev pub move_shown : ℕ → Request → Reply → Move
move_shown e (request.Fence own) (reply.Fenced generation birth accepted) = IsFenced e
move_shown e (request.Propose own birth cut) (reply.Accepted generation named epoch) = Accepts e cut.epoch
move_shown e (request.Admit asked) (reply.Admitted generation birth) = IsAdmitted e
move_shown e (request.As own birth asked) (reply.Headed generation named answer) = Learns
move_shown e (request.Plain asked) (reply.Plain answer) = plain_move asked
move_shown e asked told = Rests

-- At the moment t the node's guard executes the request, and no other guard changes.
pub record Executes (run : VolumeRun) (guards : Guards) (t node : ℕ) (asked : Request) (told : Reply) : Type 0 where
  pub actor : run.actor t ≡ node
  pub replies : IsGuardReply (guards t node) asked told (guards (suc t) node)
  pub others : (i : ℕ) → i ≢ node → guards (suc t) i ≡ guards t i

-- One moment later the nodes of the run are the guards, and each has the content of whatever facts of the log its segment means.
pub record IsNextMoment (run : VolumeRun) (h : History) (content : ReplicaData → Content) (guards : Guards) (t : ℕ) : Type 0 where
  pub nodes : (i : ℕ) → run.nodes (suc t) i ≡ as_node content (guards (suc t) i)
  pub has : (i : ℕ) (part : List Fact) → Means h.readers (log_at h t) part (guards (suc t) i).replica.cached.segment
      → IsContentOf part (content (guards (suc t) i).replica)

-- The history has what the life has emitted before the moment t, in the epoch that the life opens.
abbrev pub IsRecorded : History → Life → ℕ → ℕ → Type 0
IsRecorded h life count t =
    (n : ℕ) (w : Writing) → n < count → (life.states (suc n)).phase ≡ phase.Open w → HasEmissions h life count t w.cut.epoch

-- If a guard executes what a life has asked before, and makes the move that its reply shows, the run goes on by the rules.
abbrev pub LivesFollowOn : Type 0
LivesFollowOn =
    (run : VolumeRun) (h : History) (t : ℕ) (content : ReplicaData → Content) (guards : Guards) (e : ℕ) (life : Life) (count : ℕ)
    → IsLifeIn run h t content guards e life count → IsNextMoment run h content guards t → IsRecorded h life count t
    → (n node : ℕ) (asked : Request) (told : Reply) → n < count → life.moments n < t → Contains (life.actions n) (Ask node asked)
    → Executes run guards t node asked told
    → run.moves t ≡ move_shown e asked told → FollowsUntil run (suc t)
