-- Names by which a staging distinguishes the pieces of snapshots.
use Rattle.std.specs.Prelude.{◌≡◌, ℕ, List, ◌∷◌, ◌++◌}
use Rattle.std.specs.List.{Contains}
use Rattle.redo_core.specs.Sets.{SameSet}
use Rattle.redo_core.specs.declared.facts.Fact.{Fact}
use Rattle.replica.specs.declared.requests.Request.{Request}
use Rattle.replica.specs.declared.requests.Request.TheVariants as request
use Rattle.replica.specs.declared.replies.Reply.TheVariants as reply
use Rattle.replica.specs.Parts.{ReplicaData}
use Rattle.replica.specs.Meaning.{Turn}
use Rattle.cluster_theorems.specs.Turns.{facts_at, staged_at, WasReplied}
use Rattle.cluster_theorems.specs.Carrying.{WasTold}
use Rattle.cluster_theorems.specs.Following.{AreTurnsOf}

-- a snapshot of these facts was made under the name
abbrev pub IsNameOf : List (ℕ × Turn) → ℕ → List Fact → Type 0
IsNameOf turns name facts = (pieces : ℕ) × WasReplied facts_at turns (request.Freeze name) (reply.Frozen pieces) facts

-- snapshots of different facts go by different names
abbrev pub NamesDiffer : List (ℕ × Turn) → Type 0
NamesDiffer turns = (name : ℕ) (facts others : List Fact) → IsNameOf turns name facts → IsNameOf turns name others → SameSet facts others

-- a piece that comes was replied
abbrev pub ComesTold : List (ℕ × Turn) → Request → List Fact → Type 0
ComesTold turns (request.Add piece) brought = WasTold turns piece brought
ComesTold turns asked brought = Unit {0}

abbrev pub PiecesComeTold : List (ℕ × Turn) → Type 0
PiecesComeTold turns =
    (before after : List (ℕ × Turn)) (node : ℕ) (t : Turn) → turns ≡ before ++ (node, t) ∷ after → ComesTold before t.asked t.brought

-- Where pieces are replied before they are added, and names differ, all pieces that a staging has taken are of the same facts, at each moment.
abbrev pub NamesSuffice : Type 0
NamesSuffice =
    (roster : ℕ) (pages : ℕ → ℕ) (turns : List (ℕ × Turn)) (nodes : ℕ → ReplicaData)
    → AreTurnsOf roster pages turns nodes → PiecesComeTold turns → NamesDiffer turns
    → (before after : List (ℕ × Turn)) (node : ℕ) (facts others : List Fact) → turns ≡ before ++ after
    → Contains (staged_at before node) facts → Contains (staged_at before node) others → SameSet facts others
