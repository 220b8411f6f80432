-- What a reply to a summary sends.
use Rattle.std.specs.Prelude.{◌≡◌, ◌≢◌, ℕ, ◌<◌, ◌≤◌, min, List, []}
use Rattle.std.specs.List.{Contains}
use Rattle.redo_core.specs.Data.{RecordData}
use Rattle.redo_core.specs.Keys.{key_of}
use Rattle.redo_core.specs.declared.keys.Key.{Key}
use Rattle.redo_core.specs.Order.{Lists, RecordBefore}
use Rattle.redo_core.specs.Writing.{zeros}
use Rattle.redo_core.specs.Meaning.{ImageBefore}
use Rattle.redo_core.specs.Position.{Position}
use Rattle.redo_core.specs.Sound.{IsSound}
use Rattle.redo_core.specs.declared.facts.Fact.{Fact}
use Rattle.messages.specs.Summaries.{SummaryData}
use Rattle.messages.specs.Deltas.{DeltaData}
use Rattle.segment_theorems.specs.State.{State}
use Rattle.segment_theorems.specs.Means.{MeansAt}
use Rattle.segment_theorems.specs.Shows.{Shows}
use Rattle.segment_theorems.specs.HasMeaning.{HasAnchor, IsKeptBy}
use Rattle.segment_theorems.specs.Gossip.{Fills}
use Rattle.segment_core.specs.Forgetting.{IsFirstBreak}
use Rattle.segment_core.specs.declared.answers.ReadFault.{ReadFault}
use Rattle.segment_core.specs.declared.answers.ReadFault.TheVariants.{BrokenBlockChain}
use Rattle.gossip_core.specs.Answering.{listing_of}
use Rattle.gossip_core.specs.Absorbing.{filling_of}

-- ---- the records

-- a stored record is sent where it waits, or is alive above a point, and its key is not listed
abbrev pub IsSent : State → ℕ → List Key → RecordData → Type 0
IsSent s point keys r = IsKeptBy s point r × (Contains keys (key_of r) → ⊥)

-- ---- the pages

-- of the pages whose block chain is broken there, the least
abbrev pub IsLeastBreak : State → ReadFault → Type 0
IsLeastBreak s fault = (page n : ℕ) × IsFirstBreak s page n × (fault ≡ BrokenBlockChain page n)

-- ---- the delta

-- no pages, and the records above the lower of the two anchors
pub record SendsRecords (s : State) (summary : SummaryData) (d : DeltaData) : Type 0 where
  pub book : d.book ≡ s.book
  pub base : d.base ≡ 0
  pub pages : d.pages ≡ []
  pub anchor : ℕ
  pub own : HasAnchor s anchor
  pub records : Lists RecordBefore (IsSent s (min anchor summary.anchor) summary.keys) d.records

-- the nonzero pages at the state's anchor, and the records that its meaning keeps
pub record SendsPages (s : State) (summary : SummaryData) (d : DeltaData) : Type 0 where
  pub book : d.book ≡ s.book
  pub base : HasAnchor s d.base
  pub pages : Lists ImageBefore (λ i. Shows s i.page d.base i.bytes × (i.bytes ≢ zeros)) d.pages
  pub records : Lists RecordBefore (IsSent s d.base summary.keys) d.records

-- records alone where the summary's anchor reaches the base point
pub record AnswersSummary (s : State) (summary : SummaryData) (d : DeltaData) : Type 0 where
  pub short : s.base ≤ summary.anchor → SendsRecords s summary d
  pub whole : summary.anchor < s.base → SendsPages s summary d

-- ---- inside a sound log

-- whatever part of a sound log the state means, the delta has what that has beyond the summary
abbrev pub FillsSummary : State → SummaryData → DeltaData → Type 0
FillsSummary s summary d =
    (roster : ℕ) (log facts : List Fact) (p : Position)
    → IsSound roster log → MeansAt roster log facts p s → Fills facts p (listing_of summary) (filling_of d)
