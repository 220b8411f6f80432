-- What a node replies that certain facts have reached: it is read off those facts and the log.
use Rattle.std.specs.Prelude.{◌≡◌, ℕ, ◌<◌, ◌⊎◌, ◌↔◌, List, [], ◌∷◌, ◌++◌, Option, Some, None, Result}
use Rattle.std.specs.List.{Contains}
use Rattle.redo_core.specs.Meaning.{Meaning, IsMeaning}
use Rattle.redo_core.specs.Position.{Position, IsPosition}
use Rattle.redo_core.specs.declared.facts.Fact.{Fact}
use Rattle.hot_log.specs.Found.{IsLeast}
use Rattle.messages.specs.Deltas.{DeltaData}
use Rattle.messages.specs.Summaries.{SummaryData}
use Rattle.segment_theorems.specs.Gossip.{AnswersFor, Fills}
use Rattle.segment_core.specs.Gaps.{IsGapAt}
use Rattle.segment_core.specs.Reading.{IsFrontAt, IsReadResult}
use Rattle.segment_core.specs.declared.answers.Front.{Front}
use Rattle.segment_core.specs.declared.answers.Gap.{Gap}
use Rattle.segment_core.specs.declared.answers.ReadFault.{ReadFault}
use Rattle.gossip_core.specs.Summarizing.{IsSummaryOf}
use Rattle.gossip_core.specs.Answering.{listing_of}
use Rattle.gossip_core.specs.Absorbing.{filling_of}
use Rattle.gossip_core.specs.declared.answering.Shown.{Shown}
use Rattle.replica.specs.declared.requests.Request.{Request}
use Rattle.replica.specs.declared.requests.Request.TheVariants as request
use Rattle.replica.specs.declared.replies.Reply.{Reply}
use Rattle.replica.specs.declared.replies.Reply.TheVariants as reply
use Rattle.replica.specs.Gossiping.{limited_reply}
use Rattle.replica.specs.Replying.{gap_reply, read_reply}
use Rattle.cluster_theorems.specs.Turns.{Begun}

-- whether a fact changed what the facts mean
abbrev pub ReportsTake : ℕ → List Fact → Fact → Reply → Type 0
ReportsTake roster facts fact told =
    ((told ≡ reply.Changed) ⊎ (told ≡ reply.Unchanged))
    × ((m : Meaning) → IsMeaning roster facts m → (told ≡ reply.Unchanged) ↔ IsMeaning roster (facts ++ fact ∷ []) m)

-- the front of the facts
pub record ReportsFront (roster : ℕ) (facts : List Fact) (told : Reply) : Type 0 where
  pub p : Position
  pub position : IsPosition roster facts p
  pub front : Front
  pub tells : IsFrontAt p front
  pub is : told ≡ reply.Front front

-- what the facts lack of the log
pub record ReportsGapOf (roster : ℕ) (log facts : List Fact) (told : Reply) : Type 0 where
  pub p : Position
  pub position : IsPosition roster facts p
  pub gap : Option Gap
  pub tells : IsGapAt log facts p gap
  pub is : told ≡ gap_reply gap

-- the page of the facts at a read point, or why that is not admissible
pub record ReportsPage (roster : ℕ) (facts : List Fact) (page point : ℕ) (told : Reply) : Type 0 where
  pub p : Position
  pub position : IsPosition roster facts p
  pub answer : Result (List ℕ) ReadFault
  pub tells : IsReadResult facts p page point answer
  pub is : told ≡ read_reply answer

-- the summary of what the facts mean
abbrev pub ReportsSummary : ℕ → List Fact → Reply → Type 0
ReportsSummary roster facts told =
    (summary : SummaryData) × ((m : Meaning) → IsMeaning roster facts m → IsSummaryOf m summary) × (told ≡ reply.Summary summary)

-- what the facts have beyond the summary
abbrev pub ReportsDelta : ℕ → List Fact → SummaryData → Reply → Type 0
ReportsDelta roster facts summary told =
    (p : Position) × IsPosition roster facts p
    × ((delta : DeltaData) × Fills facts p (listing_of summary) (filling_of delta) × (told ≡ reply.Delta delta))

-- the same, and `Large` in the place of a delta of more than so many bytes
abbrev pub ReportsWithin : ℕ → List Fact → SummaryData → ℕ → Reply → Type 0
ReportsWithin roster facts summary most told = (whole : Reply) × ReportsDelta roster facts summary whole × (told ≡ limited_reply most whole)

-- whether the facts answer for the summary that a delta was made for
abbrev pub ReportsAbsorb : ℕ → List Fact → SummaryData → Reply → Type 0
ReportsAbsorb roster facts summary told =
    (p : Position) × IsPosition roster facts p
    × (((told ≡ reply.Absorbed) × AnswersFor facts p (listing_of summary))
    ⊎ ((shown : Shown) × (told ≡ reply.Uncovered shown) × (AnswersFor facts p (listing_of summary) → ⊥)))

-- the staging lacks the piece of the index; one for no pieces lacks the head
abbrev pub Lacks : Begun → ℕ → Type 0
Lacks begun index = ((index < begun.total) ⊎ (index ≡ 0)) × (Contains begun.taken index → ⊥)

-- The end of a staging: `NoStaging` where there is none; `Missing` with the least index of a piece that it lacks; and where it lacks none, the
-- segment is there, unless memory runs out. Pieces that came are never malformed.
abbrev pub EndsStaging : Option Begun → Reply → Reply → Type 0
EndsStaging None done told = told ≡ reply.NoStaging
EndsStaging (Some begun) done told =
    ((index : ℕ) × IsLeast (Lacks begun) (Some index) × (told ≡ reply.Missing index))
    ⊎ (IsLeast (Lacks begun) None × ((told ≡ done) ⊎ (told ≡ reply.Memory)))

-- What a node replies that these facts of the log have reached, and whose staging, if there is one, has taken these pieces. Memory may run
-- out. Otherwise no fact, no delta and no staged segment is refused, and no block chain is broken.
abbrev pub RepliesAs : ℕ → List Fact → List Fact → Option Begun → Request → Reply → Type 0
RepliesAs roster log facts begun (request.Take fact) told = (told ≡ reply.Memory) ⊎ ReportsTake roster facts fact told
RepliesAs roster log facts begun request.Front told = ReportsFront roster facts told
RepliesAs roster log facts begun request.Gap told = ReportsGapOf roster log facts told
RepliesAs roster log facts begun (request.Read page point) told = ReportsPage roster facts page point told
RepliesAs roster log facts begun request.Ask told = (told ≡ reply.Memory) ⊎ ReportsSummary roster facts told
RepliesAs roster log facts begun (request.Answer summary) told = (told ≡ reply.Memory) ⊎ ReportsDelta roster facts summary told
RepliesAs roster log facts begun (request.AnswerWithin summary most) told = (told ≡ reply.Memory) ⊎ ReportsWithin roster facts summary most told
RepliesAs roster log facts begun (request.Absorb summary delta) told = (told ≡ reply.Memory) ⊎ ReportsAbsorb roster facts summary told
RepliesAs roster log facts begun (request.Fold page) told = (told ≡ reply.Memory) ⊎ (told ≡ reply.Folded)
RepliesAs roster log facts begun request.Discard told = told ≡ reply.Discarded
RepliesAs roster log facts begun request.Tidy told = (told ≡ reply.Memory) ⊎ (told ≡ reply.Tidied)
RepliesAs roster log facts begun request.Finish told = EndsStaging begun reply.Restored told
RepliesAs roster log facts begun request.Unite told = EndsStaging begun reply.United told
RepliesAs roster log facts begun asked told = Unit {0}
