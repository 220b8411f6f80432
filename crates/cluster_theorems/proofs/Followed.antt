-- The nodes of a cluster follow the facts.
use Rattle.std.proofs.Common.{◌≡◌, ℕ, List, [], ◌∷◌, ◌++◌, sym, subst, rules}
use Rattle.std.proofs.lemmas.List.{append-nil}
use Rattle.redo_core.specs.Sound.{IsSound}
use Rattle.redo_core.specs.declared.facts.Fact.{Fact}
use Rattle.segment_theorems.specs.AnswersAs.{StatesAnswer}
use Rattle.replica.specs.declared.requests.Request.{Request}
use Rattle.replica.specs.declared.requests.Request.TheVariants as request
use Rattle.replica.specs.Parts.{ReplicaData}
use Rattle.replica.specs.Meaning.{Turn, Runs, ReplicaMeans}
use Rattle.cluster_theorems.specs.Turns.{turns_of, facts_at, begun_at}
use Rattle.cluster_theorems.specs.Carrying.{IsCarried, AreCarried}
use Rattle.cluster_theorems.specs.Replying.{RepliesAs}
use Rattle.cluster_theorems.specs.Following.{AreTurnsOf, FollowsFacts, ClusterFollows, SameReplies, OpenedIsEmpty}
use Rattle.cluster_theorems.proofs.Turned.{own_turn}
use Rattle.cluster_theorems.proofs.Reached.{Hold, reach}
use Rattle.cluster_theorems.proofs.Standing.{Stands, HaveTold, Comes, stands_kept, begin, of_facts}
use Rattle.cluster_theorems.proofs.Replied.{BringsSome, replies_as, one_reply}

module _ (roster : ℕ) (log : List Fact) (pages : ℕ → ℕ) (turns : List (ℕ × Turn)) (nodes : ℕ → ReplicaData) (sound : IsSound roster log)
    (runs : AreTurnsOf roster pages turns nodes) (carried : AreCarried roster log turns) where
  abbrev HoldAt : List (ℕ × Turn) → List (ℕ × Turn) → Type 0
  HoldAt before rest = Hold (Stands roster log) (HaveTold roster log) (Comes roster log sound) (stands_kept roster log sound) nodes before rest

  stand : (before rest : List (ℕ × Turn)) → turns ≡ before ++ rest → HoldAt before rest
  stand before rest all = search (rules, reach, stands_kept, begin)

  brings_some : (before : List (ℕ × Turn)) (node : ℕ) (asked : Request) (brought : List Fact) (r : ReplicaData) → HaveTold roster log before
      → Stands roster log before node r → IsCarried roster log before node asked brought
      → BringsSome roster log r.staging asked brought
  brings_some before node (request.Take fact) brought r have stands was = was
  brings_some before node (request.Absorb summary delta) brought r have stands was = have.deltas summary delta brought was
  brings_some before node request.Finish brought r have stands was = of_facts roster log sound before node brought r stands was
  brings_some before node request.Unite brought r have stands was = of_facts roster log sound before node brought r stands was
  brings_some before node asked brought r have stands was = tt

  node_means : (node : ℕ) → ReplicaMeans roster log (facts_at turns node) (nodes node)
  node_means node =
      let last = (stand turns [] (sym (append-nil turns))).1 node in
      subst (ReplicaMeans roster log (facts_at turns node)) (sym last.1) last.2.means

  pub turn_replies : (before after : List (ℕ × Turn)) (node : ℕ) (t : Turn) → turns ≡ before ++ (node, t) ∷ after
      → RepliesAs roster log (facts_at before node) (begun_at before node) t.asked t.told
  turn_replies before after node t all =
      let stands = stand before ((node, t) ∷ after) all in
      let own = stands.1 node in
      let goes : Runs own.0 (t ∷ turns_of node after) (nodes node) = subst (λ ts. Runs own.0 ts (nodes node)) (own_turn node t after) own.1 in
      replies_as roster log (facts_at before node) t.brought (begun_at before node) own.0 goes.0 t.asked t.told sound own.2.means own.2.filled
      (brings_some before node t.asked t.brought own.0 stands.0 own.2 (carried before after node t all)) goes.1

  pub follows : StatesAnswer → FollowsFacts roster log turns nodes
  follows answer = search (rules, node_means, turn_replies)

pub cluster_follows : StatesAnswer → ClusterFollows
cluster_follows answer roster log pages turns nodes sound runs carried = follows roster log pages turns nodes sound runs carried answer

pub same_replies : SameReplies
same_replies roster log pages turns nodes sound runs carried before after others later node other t u one two same reads asks x y =
    let replies = turn_replies roster log pages turns nodes sound runs carried in
    one_reply roster log (facts_at before node) (facts_at others other) (begun_at before node) (begun_at others other) t.asked t.told u.told same reads
    (replies before after node t one)
    (subst (λ a. RepliesAs roster log (facts_at others other) (begun_at others other) a u.told) asks (replies others later other u two)) x y

pub opened_is_empty : OpenedIsEmpty
opened_is_empty readers roster pages new says = search rules
