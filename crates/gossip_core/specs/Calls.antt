-- What each call does, in one relation: the machines that make these calls are defined by them. The contracts promise these clauses one by one.
use Rattle.std.specs.Prelude.{◌≡◌, ℕ, ◌<◌, ◌⊎◌, ◌↔◌, Result, Err, IfOk, IfErr, OnOk, OnErr}
use Rattle.redo_core.specs.Meaning.{Meaning}
use Rattle.messages.specs.Summaries.{SummaryData}
use Rattle.messages.specs.Deltas.{DeltaData}
use Rattle.segment_theorems.specs.State.{State}
use Rattle.segment_theorems.specs.HasMeaning.{HasMeaning}
use Rattle.segment_core.specs.Forgetting.{IsSoundState, IsWhole, IsFirstBreak}
use Rattle.segment_core.specs.declared.answers.ReadFault.{ReadFault}
use Rattle.segment_core.specs.declared.answers.ReadFault.TheVariants as fault
use Rattle.segment_core.specs.declared.answers.Refusal.TheVariants as refusal
use Rattle.gossip_core.specs.Summarizing.{Summarizes, IsSummaryOf}
use Rattle.gossip_core.specs.Replying.{AnswersSummary, FillsSummary, IsLeastBreak}
use Rattle.gossip_core.specs.Absorbing.{MeansBoth, IsOfOneLog, Answers, AbsorbsInto, RefusesAbsorb, ReportsRoster}
use Rattle.gossip_core.specs.declared.absorbing.AbsorbRefusal.{AbsorbRefusal}
use Rattle.gossip_core.specs.declared.absorbing.AbsorbRefusal.TheVariants as absorb
use Rattle.gossip_core.specs.declared.answering.Shown.{Shown}

-- the segment sums up what it has
pub record SumsUp (s : State) (summary : SummaryData) : Type 0 where
  pub own : Summarizes s summary
  pub meaning : (m : Meaning) → HasMeaning s m → IsSummaryOf m summary

-- the segment replies to a summary
pub record RepliesTo (s : State) (summary : SummaryData) (answer : Result DeltaData ReadFault) : Type 0 where
  pub fills : IfOk answer (FillsSummary s summary)
  pub sound : IfErr answer (λ e. IsSoundState s → e ≡ fault.Memory)
  pub answers : IfOk answer (AnswersSummary s summary)
  pub refused : IfErr answer (λ e. (e ≡ fault.Memory) ⊎ ((summary.anchor < s.base) × IsLeastBreak s e))
  pub whole : IfOk answer (λ d. summary.anchor < s.base → IsWhole s)
  pub broken : (page n : ℕ) → (answer ≡ Err (fault.BrokenBlockChain page n)) ↔ ((summary.anchor < s.base) × IsFirstBreak s page n)

-- the segment absorbs a delta that was made for a summary
pub record AbsorbsDelta (old : State) (summary : SummaryData) (delta : DeltaData) (answer : Result (Unit {0}) AbsorbRefusal) (new : State) : Type 0 where
  pub means : OnOk answer (MeansBoth old summary delta new)
  pub sound : IfErr answer (λ e. IsOfOneLog old summary delta → (e ≡ absorb.Refused refusal.Memory) ⊎ ((shown : Shown) × (e ≡ absorb.Uncovered shown)))
  pub absorbs : OnOk answer (AbsorbsInto old delta new)
  pub answers : OnOk answer (Answers old summary)
  pub refused : IfErr answer (RefusesAbsorb old summary delta)
  pub roster : ReportsRoster old delta answer
  pub unchanged : OnErr answer (new ≡ old)
