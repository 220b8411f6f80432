-- One more request that a guard executes.
use Rattle.std.proofs.Common.{◌≡◌, ℕ, suc, sym, ◌∙◌, subst, ap}
use Rattle.replica.specs.Parts.{ReplicaData}
use Rattle.guard.specs.declared.requests.Request.{Request}
use Rattle.guard.specs.declared.replies.Reply.{Reply}
use Rattle.guard.specs.Data.{GuardData}
use Rattle.volume_theorems.specs.Nodes.{Content, VolumeNode}
use Rattle.volume_theorems.specs.Runs.{VolumeRun, Move}
use Rattle.volume_theorems.specs.Protocol.{Moves}
use Rattle.volume_theorems.specs.Stopping.{FollowsUntil}
use Rattle.volume_theorems.proofs.Stopping.{follows_on}
use Rattle.volume_guards.specs.Guards.{as_node}
use Rattle.volume_logs.specs.Histories.{History}
use Rattle.volume_engines.specs.Lives.{Guards}
use Rattle.volume_engines.specs.Following.{Executes, IsNextMoment}

-- A guard that does not change is a node that does not change.
pub node_stays : (run : VolumeRun) (h : History) (content : ReplicaData → Content) (guards : Guards) (t i : ℕ) → IsNextMoment run h content guards t
    → run.nodes t i ≡ as_node content (guards t i) → guards (suc t) i ≡ guards t i → run.nodes (suc t) i ≡ run.nodes t i
node_stays run h content guards t i next was same = next.nodes i ∙ (ap (λ (g : GuardData). as_node content g) same ∙ sym was)

pub goes_on : (run : VolumeRun) (h : History) (t : ℕ) (content : ReplicaData → Content) (guards : Guards) (node : ℕ) (asked : Request) (told : Reply) (move : Move)
    → FollowsUntil run t → ((i : ℕ) → run.nodes t i ≡ as_node content (guards t i)) → IsNextMoment run h content guards t
    → Executes run guards t node asked told
    → Moves run t node move (as_node content (guards t node)) (as_node content (guards (suc t) node)) → run.moves t ≡ move → FollowsUntil run (suc t)
goes_on run h t content guards node asked told move follows was next ex made same =
    let after : Moves run t node move (as_node content (guards t node)) (run.nodes (suc t) node) =
    subst (λ (x : VolumeNode). Moves run t node move (as_node content (guards t node)) x) (sym (next.nodes node)) made in
    let between : Moves run t node move (run.nodes t node) (run.nodes (suc t) node) =
    subst (λ (x : VolumeNode). Moves run t node move x (run.nodes (suc t) node)) (sym (was node)) after in
    let named : Moves run t node (run.moves t) (run.nodes t node) (run.nodes (suc t) node) =
    subst (λ (m : Move). Moves run t node m (run.nodes t node) (run.nodes (suc t) node)) (sym same) between in
    follows_on run t follows
    (subst (λ (i : ℕ). Moves run t i (run.moves t) (run.nodes t i) (run.nodes (suc t) i)) (sym ex.actor) named)
    (λ i apart. node_stays run h content guards t i next (was i) (ex.others i (λ here. apart (here ∙ sym ex.actor))))
