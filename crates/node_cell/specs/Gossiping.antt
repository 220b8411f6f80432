-- Summaries, mail, and what an absorb answers.
use Rattle.std.specs.Prelude.{◌≡◌, ℕ, ◌<◌, ◌≤◌, List, Result, MatchResult}
use Rattle.std.specs.List.{Contains}
use Rattle.redo_core.specs.Sets.{IsPart}
use Rattle.redo_core.specs.Keys.{KeyBefore}
use Rattle.redo_core.specs.declared.keys.Key.{Key}
use Rattle.redo_core.specs.Order.{IsFirst}
use Rattle.redo_core.specs.Position.{Position, IsPosition}
use Rattle.redo_core.specs.Meaning.{Meaning, IsMeaning}
use Rattle.redo_core.specs.declared.facts.Fact.{Fact}
use Rattle.messages.specs.Summaries.{SummaryData}
use Rattle.messages.specs.Deltas.{DeltaData}
use Rattle.segment_theorems.specs.State.{State}
use Rattle.segment_theorems.specs.Means.{MeansAt}
use Rattle.segment_theorems.specs.Gossip.{Fills, IsAccounted}
use Rattle.front_board.specs.FrontWord.{FrontData}
use Rattle.gossip_core.specs.Summarizing.{IsSummaryOf}
use Rattle.gossip_core.specs.Answering.{listing_of}
use Rattle.gossip_core.specs.Absorbing.{filling_of, MeansBoth}
use Rattle.gossip_core.specs.declared.absorbing.AbsorbRefusal.{AbsorbRefusal}
use Rattle.gossip_core.specs.declared.absorbing.AbsorbRefusal.TheVariants as refusal
use Rattle.gossip_core.specs.declared.answering.Shown.{Shown}
use Rattle.gossip_core.specs.declared.answering.Shown.TheVariants.{Anchor as OfAnchor, Key as OfKey}
use Rattle.node_cell.specs.declared.answers.AbsorbFault.{AbsorbFault}
use Rattle.node_cell.specs.declared.answers.AbsorbFault.TheVariants.{Uncovered, Memory}

-- a summary, and a delta that was made for it
pub record MailData : Type 0 where
  pub summary : SummaryData
  pub delta : DeltaData

-- the summary is that of one part of the log
pub record IsSummaryOfLog (roster : ℕ) (log : List Fact) (summary : SummaryData) : Type 0 where
  pub facts : List Fact
  pub m : Meaning
  pub part : IsPart facts log
  pub meaning : IsMeaning roster facts m
  pub told : IsSummaryOf m summary

-- the delta has what these facts, whose position is p, have beyond the summary
abbrev pub IsMailOf : List Fact → Position → MailData → Type 0
IsMailOf facts p mail = Fills facts p (listing_of mail.summary) (filling_of mail.delta)

-- the delta has what one part of the log has beyond the summary
pub record IsMail (roster : ℕ) (log : List Fact) (mail : MailData) : Type 0 where
  pub facts : List Fact
  pub p : Position
  pub part : IsPart facts log
  pub position : IsPosition roster facts p
  pub sent : IsMailOf facts p mail

-- the complete epoch and the complete point of one part of the log, which has all facts of a part that the mail may be of
pub record IsFrontWithMail (roster : ℕ) (log : List Fact) (mail : MailData) (front : FrontData) : Type 0 where
  pub facts : List Fact
  pub p : Position
  pub part : IsPart facts log
  pub position : IsPosition roster facts p
  pub sender : List Fact
  pub q : Position
  pub stood : IsPosition roster sender q
  pub sent : IsMailOf sender q mail
  pub had : IsPart sender facts
  pub epoch : front.epoch ≡ p.epoch
  pub number : front.number ≡ p.complete

-- the summary lists a key that facts of the position p do not account for
abbrev pub LacksKey : List Fact → Position → SummaryData → Key → Type 0
LacksKey facts p summary key = Contains summary.keys key × (IsAccounted facts p key → ⊥)

-- what of a summary they do not answer for: its anchor where that is above theirs, else the least such key
abbrev pub LeavesUncovered : List Fact → Position → SummaryData → Shown → Type 0
LeavesUncovered facts p summary (OfAnchor shown) = (shown ≡ summary.anchor) × (p.anchor < shown)
LeavesUncovered facts p summary (OfKey key) = (summary.anchor ≤ p.anchor) × IsFirst KeyBefore (LacksKey facts p summary) key

-- a part of the log that the segment means does not answer for so much of the summary
pub record IsUncoveredThere (roster : ℕ) (log : List Fact) (segment : State) (summary : SummaryData) (shown : Shown) : Type 0 where
  pub facts : List Fact
  pub p : Position
  pub means : MeansAt roster log facts p segment
  pub leaves : LeavesUncovered facts p summary shown

-- an absorb makes the segment mean what it meant and the part that the mail is of; one that is refused leaves the segment
abbrev pub AbsorbsMail : {X E : Type 0} → MailData → Result X E → State → State → Type 0
AbsorbsMail mail result old new = MatchResult result (λ _. MeansBoth old mail.summary mail.delta new) (λ _. new ≡ old)

-- why the segment does not absorb mail: it does not answer for the summary that the delta was made for, or memory ran out
abbrev pub RefusesMail : ℕ → List Fact → State → MailData → AbsorbFault → Type 0
RefusesMail roster log segment mail (Uncovered shown) = IsUncoveredThere roster log segment mail.summary shown
RefusesMail roster log segment mail Memory = Unit {0}

-- what a refusal of mail of the log is for the node
abbrev pub fault_of : AbsorbRefusal → AbsorbFault
fault_of (refusal.Uncovered shown) = Uncovered shown
fault_of (refusal.Refused why) = Memory
