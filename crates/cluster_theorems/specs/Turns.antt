-- The turns of the nodes of a cluster, in the order of time: what they bring to each node, and what was replied in them.
use Rattle.std.specs.Prelude.{◌≡◌, ◌==◌, ℕ, List, [], ◌∷◌, ◌++◌, Option, Some, None, option_map, if◌then◌else◌}
use Rattle.std.specs.List.{AllZip}
use Rattle.redo_core.specs.declared.facts.Fact.{Fact}
use Rattle.replica.specs.declared.requests.Request.{Request}
use Rattle.replica.specs.declared.requests.Request.TheVariants as request
use Rattle.replica.specs.declared.replies.Reply.{Reply}
use Rattle.replica.specs.declared.replies.Reply.TheVariants as reply
use Rattle.replica.specs.Meaning.{Turn, facts_after, facts_after_all}

-- the turns of one node
abbrev pub turns_of : ℕ → List (ℕ × Turn) → List Turn
turns_of node [] = []
turns_of node (x ∷ turns) = if x.0 == node then x.1 ∷ turns_of node turns else turns_of node turns

-- the request and its reply are the same, whatever each is said to bring
abbrev pub SameTurn : Turn → Turn → Type 0
SameTurn t u = (u.asked ≡ t.asked) × (u.told ≡ t.told)

-- the turns of all are those that each node made, in its order
abbrev pub Interleaves : (ℕ → List Turn) → List (ℕ × Turn) → Type 0
Interleaves made turns = (node : ℕ) → AllZip SameTurn (made node) (turns_of node turns)

-- ---- what the turns leave of a node that had nothing
-- the facts that have reached it
abbrev pub facts_at : List (ℕ × Turn) → ℕ → List Fact
facts_at turns node = facts_after_all [] (turns_of node turns)

-- the facts that had reached it when it made the snapshot that it keeps
abbrev pub frozen_after : List Fact → List Fact → Request → Reply → List Fact
frozen_after facts frozen (request.Freeze name) (reply.Frozen pieces) = facts
frozen_after facts frozen asked told = frozen

abbrev pub frozen_after_all : List Fact → List Fact → List Turn → List Fact
frozen_after_all facts frozen [] = frozen
frozen_after_all facts frozen (t ∷ turns) =
    frozen_after_all (facts_after facts t.brought t.asked t.told) (frozen_after facts frozen t.asked t.told) turns

abbrev pub frozen_at : List (ℕ × Turn) → ℕ → List Fact
frozen_at turns node = frozen_after_all [] [] (turns_of node turns)

-- the facts that each piece brought which its staging has taken; none where the staging is gone
abbrev pub staged_after : List (List Fact) → List Fact → Request → Reply → List (List Fact)
staged_after staged brought (request.Stage name total) told = []
staged_after staged brought (request.Add piece) reply.Added = brought ∷ staged
staged_after staged brought request.Finish reply.Restored = []
staged_after staged brought request.Unite reply.United = []
staged_after staged brought asked told = staged

abbrev pub staged_after_all : List (List Fact) → List Turn → List (List Fact)
staged_after_all staged [] = staged
staged_after_all staged (t ∷ turns) = staged_after_all (staged_after staged t.brought t.asked t.told) turns

abbrev pub staged_at : List (ℕ × Turn) → ℕ → List (List Fact)
staged_at turns node = staged_after_all [] (turns_of node turns)

-- its staging: the total that this was begun for, and the indices of the pieces that it has taken
pub record Begun : Type 0 where
  pub total : ℕ
  pub taken : List ℕ

abbrev pub with_piece : ℕ → Begun → Begun
with_piece index begun = record { total = begun.total; taken = index ∷ begun.taken }

-- one is begun, a piece is added, or it is gone
abbrev pub begun_after : Option Begun → Request → Reply → Option Begun
begun_after begun (request.Stage name total) told = Some (record { total = total; taken = [] })
begun_after begun (request.Add piece) reply.Added = option_map (with_piece piece.index) begun
begun_after begun request.Finish reply.Restored = None
begun_after begun request.Unite reply.United = None
begun_after begun asked told = begun

abbrev pub begun_after_all : Option Begun → List Turn → Option Begun
begun_after_all begun [] = begun
begun_after_all begun (t ∷ turns) = begun_after_all (begun_after begun t.asked t.told) turns

abbrev pub begun_at : List (ℕ × Turn) → ℕ → Option Begun
begun_at turns node = begun_after_all None (turns_of node turns)

-- ---- what was replied
-- in one of the turns a node was asked this, and replied that; and these are the facts that it `had` by then
pub record WasReplied (had : List (ℕ × Turn) → ℕ → List Fact) (turns : List (ℕ × Turn)) (asked : Request) (told : Reply) (facts : List Fact) : Type 0 where
  pub before : List (ℕ × Turn)
  pub turn : ℕ × Turn
  pub after : List (ℕ × Turn)
  pub all : turns ≡ before ++ turn ∷ after
  pub asked_is : turn.1.asked ≡ asked
  pub told_is : turn.1.told ≡ told
  pub facts_are : facts ≡ had before turn.0
