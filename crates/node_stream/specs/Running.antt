-- The turns of a guard that a stream makes, and those of the replica inside.
use Rattle.std.specs.Prelude.{◌≡◌, ℕ, ◌+◌, ◌*◌, ◌<◌, ◌≤◌, ◌^◌, ◌⊎◌, List, [], ◌∷◌, ◌++◌, length, Option, Some, None, Ok, IsTrue}
use Rattle.std.specs.List.{AllByRecursion}
use Rattle.redo_core.specs.declared.facts.Fact.{Fact}
use Rattle.framing.specs.Frames.{AnswersFrames}
use Rattle.framing.specs.Inside.{AreInside, FitsFrame, Exceeds}
use Rattle.framing.specs.Lines.{AnswersLines}
use Rattle.replica.specs.Machine.{IsReply}
use Rattle.replica.specs.Meaning.{Turn, Runs}
use Rattle.replica.specs.Parts.{ReplicaData}
use Rattle.replica.specs.declared.requests.Request.{Request}
use Rattle.guard.specs.Data.{GuardData}
use Rattle.guard.specs.Keeping.{GuardTurn, GuardRuns}
use Rattle.guard.specs.Plainly.{IsPlainTurn, RunsAsReplica}
use Rattle.node_stream.specs.Answering.{Spoken, by_lines, by_frames, TellsFault, IsHeldBack, IsAnswer, IsFrameAnswer}
use Rattle.node_stream.specs.Carried.{AreCarriedOut}
use Rattle.node_stream.specs.declared.asked.GuardAsked.{GuardAsked}
use Rattle.node_stream.specs.declared.faults.LineFault.TheVariants as fault

-- what was asked is the turn's request, and the text is that of its reply, or says that there was no memory for that
pub record IsTurn (form : Spoken) (bytes text : List ℕ) (t : GuardTurn) : Type 0 where
  pub asked : GuardAsked
  pub asks : form.asks bytes ≡ Ok asked
  pub is : t.asked ≡ asked.request
  pub tells : (text ≡ form.reply asked.window t.told) ⊎ (text ≡ form.memory)

-- the turns of one request: its own, or none
abbrev pub MakesRequest : Spoken → List ℕ → List ℕ → List GuardTurn → Type 0
MakesRequest form bytes text turns = ((turns ≡ []) × TellsFault form bytes text) ⊎ ((t : GuardTurn) × (turns ≡ t ∷ []) × IsTurn form bytes text t)

-- The turn of one of many requests, whose reply would exceed the limit of the answer to all, after so many bytes of answers and before so
-- many answers. The text says so.
pub record IsTurnOver (form : Spoken) (put others : ℕ) (bytes text : List ℕ) (t : GuardTurn) : Type 0 where
  pub asked : GuardAsked
  pub asks : form.asks bytes ≡ Ok asked
  pub is : t.asked ≡ asked.request
  pub exceeds : Exceeds put (length (form.reply asked.window t.told)) others
  pub over : text ≡ form.over

-- The turns of one of many requests: those that it would make alone, where its text is within the limit; else one whose reply exceeds that, or
-- none where the longest answer would.
abbrev pub MakesOneOf : Spoken → ℕ → ℕ → List ℕ → List ℕ → List GuardTurn → Type 0
MakesOneOf form put others bytes text turns =
    (FitsFrame put (length text) others × MakesRequest form bytes text turns)
    ⊎ (((t : GuardTurn) × (turns ≡ t ∷ []) × IsTurnOver form put others bytes text t)
    ⊎ ((turns ≡ []) × IsHeldBack form put others bytes text))

-- Those of one of many requests after another: each text is that of the request in its place, and counts with four bytes for its length.
abbrev pub MakeInTurn : Spoken → ℕ → List (List ℕ) → List (List ℕ) → List GuardTurn → Type 0
MakeInTurn form put [] [] turns = turns ≡ []
MakeInTurn form put (bytes ∷ others) (text ∷ texts) turns =
    (here : List GuardTurn) × (rest : List GuardTurn) × (turns ≡ here ++ rest) × MakesOneOf form put (length others) bytes text here
    × MakeInTurn form (put + (4 + length text)) others texts rest
MakeInTurn form put [] (text ∷ texts) turns = ⊥
MakeInTurn form put (bytes ∷ others) [] turns = ⊥

-- those of one request after another, by what one makes with its text
abbrev pub MakeEach : (List ℕ → List ℕ → List GuardTurn → Type 0) → List (List ℕ) → List (List ℕ) → List GuardTurn → Type 0
MakeEach one [] [] turns = turns ≡ []
MakeEach one (bytes ∷ others) (text ∷ texts) turns =
    (here : List GuardTurn) × (rest : List GuardTurn) × (turns ≡ here ++ rest) × one bytes text here × MakeEach one others texts rest
MakeEach one [] (text ∷ texts) turns = ⊥
MakeEach one (bytes ∷ others) [] turns = ⊥

-- Those of the frames in the bytes, of which there are few enough. Their answers are the frames in the text, which is within the limit.
pub record MakesMany (form : Spoken) (bytes text : List ℕ) (turns : List GuardTurn) : Type 0 where
  pub frames : List (List ℕ)
  pub texts : List (List ℕ)
  pub asked : AreInside bytes frames
  pub few : 21 * length frames ≤ 2 ^ 26
  pub told : AreInside text texts
  pub within : length text ≤ 2 ^ 26
  pub makes : MakeInTurn form 0 frames texts turns

-- The bytes are no frames, and the text says so; or short answers to so many frames would exceed the limit.
abbrev pub AreNotAnswered : Spoken → List ℕ → List ℕ → Type 0
AreNotAnswered form bytes text =
    (((frames : List (List ℕ)) → AreInside bytes frames → ⊥) × (text ≡ form.fault fault.Form))
    ⊎ ((frames : List (List ℕ)) × AreInside bytes frames × (2 ^ 26 < 21 * length frames) × (text ≡ form.over))

-- those of one request, or of many
abbrev pub MakesThese : Spoken → Option (List ℕ) → List ℕ → List ℕ → List GuardTurn → Type 0
MakesThese form None bytes text turns = MakesRequest form bytes text turns
MakesThese form (Some inside) bytes text turns = ((turns ≡ []) × AreNotAnswered form inside text) ⊎ MakesMany form inside text turns

-- those of what came; none where there was no memory for it, or it is longer than the limit
abbrev pub MakesBelow : Spoken → ℕ → List ℕ → List ℕ → List GuardTurn → Type 0
MakesBelow form limit bytes text turns =
    ((turns ≡ []) × (text ≡ form.memory))
    ⊎ (((turns ≡ []) × (limit < length bytes) × (text ≡ form.long))
    ⊎ MakesThese form (form.many bytes) bytes text turns)

-- the requests make the turns, in order, and the texts are those of their replies
abbrev pub MakeTurns : Spoken → ℕ → List (List ℕ) → List (List ℕ) → List GuardTurn → Type 0
MakeTurns form limit requests texts turns = MakeEach (MakesBelow form limit) requests texts turns

-- The replica goes from a first state to another one by the turns, in order, and each brings what `brings` says of its request at the state
-- before it.
abbrev pub RunsBringing : (ReplicaData → Request → List Fact) → ReplicaData → List Turn → ReplicaData → Type 0
RunsBringing brings old [] new = new ≡ old
RunsBringing brings old (t ∷ ts) new =
    (next : ReplicaData) × (t.brought ≡ brings old t.asked) × IsReply old t.asked t.told next × RunsBringing brings next ts new

-- The replica goes through the turns that its guard has it carry out, and each brings what `brings` says.
pub record RunsInside (brings : ReplicaData → Request → List Fact) (old : ReplicaData) (turns : List GuardTurn) (new : ReplicaData) : Type 0 where
  pub own : List Turn
  pub are : AreCarriedOut turns own
  pub runs : Runs old own new
  pub bringing : RunsBringing brings old own new

-- The texts are the replies of the guard's steps on the requests, one after another.
abbrev pub Run : Spoken → (ReplicaData → Request → List Fact) → ℕ → GuardData → List (List ℕ) → List (List ℕ) → GuardData → Type 0
Run form brings limit old requests texts new =
    (turns : List GuardTurn) × GuardRuns old turns new × MakeTurns form limit requests texts turns
    × RunsInside brings old.replica turns new.replica

-- The answers to lines are such replies. What each request brings is for the reader to say; where that is of one sound log at each turn,
-- `RunsMean` says what the segment means after them.
abbrev pub AnswersRun : Type 0
AnswersRun =
    (brings : ReplicaData → Request → List Fact) (limit : ℕ) (old : GuardData) (lines texts : List (List ℕ)) (new : GuardData)
    → AnswersLines IsAnswer limit old lines texts new → Run by_lines brings limit old lines texts new

-- and so are the answers to frames
abbrev pub FramesRun : Type 0
FramesRun =
    (brings : ReplicaData → Request → List Fact) (limit : ℕ) (old : GuardData) (frames texts : List (List ℕ)) (new : GuardData)
    → AnswersFrames IsFrameAnswer limit old frames texts new → Run by_frames brings limit old frames texts new

-- ---- no engine
-- What a stream makes of a guard that no engine has admitted: where all turns are plain, they are those of the replica alone, whose replies have
-- the same texts, and the replica is all that they change.
abbrev pub PlainStream : Spoken → ℕ → GuardData → List (List ℕ) → List (List ℕ) → GuardData → Type 0
PlainStream form limit old requests texts new =
    (turns : List GuardTurn) × MakeTurns form limit requests texts turns
    × (AllByRecursion IsPlainTurn turns → RunsAsReplica old turns new)

-- A node that serves no engine answers lines, and frames, as its replica alone.
abbrev pub PlainlyRun : Type 0
PlainlyRun =
    (limit : ℕ) (old : GuardData) (requests texts : List (List ℕ)) (new : GuardData) → ¬ (IsTrue old.is_member)
    → (AnswersLines IsAnswer limit old requests texts new → PlainStream by_lines limit old requests texts new)
    × (AnswersFrames IsFrameAnswer limit old requests texts new → PlainStream by_frames limit old requests texts new)
