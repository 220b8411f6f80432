-- A cluster whose nodes answer streams.
use Rattle.std.specs.Prelude.{ℕ, List, Bool, true, false}
use Rattle.redo_core.specs.Sound.{IsSound}
use Rattle.redo_core.specs.declared.facts.Fact.{Fact}
use Rattle.replica.specs.Parts.{empty_replica}
use Rattle.replica.specs.Meaning.{Turn}
use Rattle.guard.specs.Data.{GuardData, fresh_guard}
use Rattle.guard.specs.Keeping.{GuardTurn}
use Rattle.framing.specs.Lines.{AnswersLines}
use Rattle.framing.specs.Frames.{AnswersFrames}
use Rattle.node_stream.specs.Answering.{Spoken, by_lines, by_frames, IsAnswer, IsFrameAnswer}
use Rattle.node_stream.specs.Carried.{AreCarriedOut}
use Rattle.node_stream.specs.Running.{MakeTurns}
use Rattle.cluster_theorems.specs.Turns.{Interleaves}
use Rattle.cluster_theorems.specs.Carrying.{AreCarried}
use Rattle.cluster_theorems.specs.Following.{FollowsFacts}

-- frames, or lines
abbrev pub spoken : Bool → Spoken
spoken true = by_frames
spoken false = by_lines

-- the texts answer the requests, in frames or in lines
abbrev pub AnswersStream : Bool → ℕ → GuardData → List (List ℕ) → List (List ℕ) → GuardData → Type 0
AnswersStream true limit old frames texts new = AnswersFrames IsFrameAnswer limit old frames texts new
AnswersStream false limit old lines texts new = AnswersLines IsAnswer limit old lines texts new

-- Each node's lines or frames make turns of its guard, whose replies are its texts, and of the replica inside. However the latter are interleaved,
-- where each is carried by those before it the nodes follow the facts.
abbrev pub StreamsFollow : Type 0
StreamsFollow =
    (roster limit : ℕ) (log : List Fact) (pages births : ℕ → ℕ) (framed : ℕ → Bool) (requests texts : ℕ → List (List ℕ)) (nodes : ℕ → GuardData)
    → IsSound roster log
    → ((node : ℕ)
    → AnswersStream (framed node) limit (fresh_guard (empty_replica roster (pages node)) (births node)) (requests node) (texts node) (nodes node))
    → (guarded : ℕ → List GuardTurn) × (made : ℕ → List Turn)
    × ((node : ℕ) → MakeTurns (spoken (framed node)) limit (requests node) (texts node) (guarded node))
    × ((node : ℕ) → AreCarriedOut (guarded node) (made node))
    × ((turns : List (ℕ × Turn)) → Interleaves made turns → AreCarried roster log turns
    → FollowsFacts roster log turns (λ node. (nodes node).replica))
