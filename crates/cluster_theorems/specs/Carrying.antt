-- What a network may bring to a node: what was replied before, as late and as often as it likes, and nothing that is made up.
use Rattle.std.specs.Prelude.{◌≡◌, ◌⊎◌, ℕ, List, ◌∷◌, ◌++◌}
use Rattle.std.specs.List.{Contains}
use Rattle.redo_core.specs.Sets.{SameSet}
use Rattle.redo_core.specs.declared.facts.Fact.{Fact}
use Rattle.messages.specs.Deltas.{DeltaData}
use Rattle.messages.specs.Pieces.{PieceData}
use Rattle.messages.specs.Summaries.{SummaryData}
use Rattle.replica.specs.declared.requests.Request.{Request}
use Rattle.replica.specs.declared.requests.Request.TheVariants as request
use Rattle.replica.specs.declared.replies.Reply.TheVariants as reply
use Rattle.replica.specs.Meaning.{Turn}
use Rattle.cluster_theorems.specs.Turns.{facts_at, frozen_at, staged_at, WasReplied}

-- a node replied the piece, and these facts had reached it when it made the piece's snapshot
abbrev pub WasTold : List (ℕ × Turn) → PieceData → List Fact → Type 0
WasTold turns piece facts = (index : ℕ) × WasReplied frozen_at turns (request.Piece index) (reply.Piece piece) facts

-- a node replied the delta to the summary, under a limit or without one, and these facts had reached it then
abbrev pub WasAnswered : List (ℕ × Turn) → SummaryData → DeltaData → List Fact → Type 0
WasAnswered turns summary delta facts =
    WasReplied facts_at turns (request.Answer summary) (reply.Delta delta) facts
    ⊎ ((most : ℕ) × WasReplied facts_at turns (request.AnswerWithin summary most) (reply.Delta delta) facts)

-- each piece that a node's staging has taken brought these facts
abbrev pub StagesFacts : List (ℕ × Turn) → ℕ → List Fact → Type 0
StagesFacts turns node brought = (facts : List Fact) → Contains (staged_at turns node) facts → SameSet facts brought

-- After these turns a request may come to a node and bring it these facts. A fact is of the log. A delta was replied to the summary, and
-- brings the facts of the node that replied it; a piece was replied too, and brings those of its snapshot. A staging brings what each piece does
-- that it has taken: they are all of the same facts.
abbrev pub IsCarried : ℕ → List Fact → List (ℕ × Turn) → ℕ → Request → List Fact → Type 0
IsCarried roster log turns node (request.Open readers) brought = readers ≡ roster
IsCarried roster log turns node (request.Take fact) brought = Contains log fact
IsCarried roster log turns node (request.Absorb summary delta) brought = WasAnswered turns summary delta brought
IsCarried roster log turns node (request.Add piece) brought = WasTold turns piece brought
IsCarried roster log turns node request.Finish brought = StagesFacts turns node brought
IsCarried roster log turns node request.Unite brought = StagesFacts turns node brought
IsCarried roster log turns node asked brought = Unit {0}

-- each turn is carried by those before it
abbrev pub AreCarried : ℕ → List Fact → List (ℕ × Turn) → Type 0
AreCarried roster log turns =
    (before after : List (ℕ × Turn)) (node : ℕ) (t : Turn) → turns ≡ before ++ (node, t) ∷ after → IsCarried roster log before node t.asked t.brought
