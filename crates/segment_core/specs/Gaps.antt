-- Why a complete point does not move.
use Rattle.std.specs.Prelude.{◌≡◌, ℕ, ◌+◌, ◌<◌, List, Option, Some, None}
use Rattle.std.specs.List.{Contains}
use Rattle.redo_core.specs.Data.{RecordData, CutData}
use Rattle.redo_core.specs.Sets.{records, cuts}
use Rattle.redo_core.specs.Order.{IsFirst, BeforeByNumber}
use Rattle.redo_core.specs.CompleteEpoch.{LacksCut}
use Rattle.redo_core.specs.Standing.{IsAlive, IsWaiting}
use Rattle.redo_core.specs.Linked.{IsLinked}
use Rattle.redo_core.specs.Position.{Position}
use Rattle.redo_core.specs.declared.facts.Fact.{Fact}
use Rattle.segment_theorems.specs.State.{State}
use Rattle.segment_theorems.specs.HasMeaning.{IsLinkedIn}
use Rattle.hot_log.specs.Alive.{IsHeldAlive}
use Rattle.hot_log.specs.Gaps.{HangsOn, HasWaiting}
use Rattle.segment_core.specs.declared.answers.Gap.{Gap}
use Rattle.segment_core.specs.declared.answers.Gap.TheVariants.{Record, Truncation}

-- a stored record that is alive and above each linked LSN, so above the complete point
abbrev pub IsAhead : State → RecordData → Type 0
IsAhead s r = IsHeldAlive s.book s.held r × ((n : ℕ) → IsLinkedIn s n → n < r.number)

-- The gap of a state, for arbitrary facts: the LSN that the first record ahead is blocked by, which is not linked; where none is ahead
-- and stored records wait, the truncation of the epoch after the complete one; none where no stored record is ahead or waits.
abbrev pub IsGapOf : State → Option Gap → Type 0
IsGapOf s (Some (Record n)) =
    (first : RecordData) × IsFirst BeforeByNumber (IsAhead s) first × HangsOn s.book s.held first n × (IsLinkedIn s n → ⊥)
IsGapOf s (Some (Truncation epoch)) =
    ((r : RecordData) → IsAhead s r → ⊥) × HasWaiting s.book s.held × (epoch ≡ s.book.complete + 1)
IsGapOf s None = ((r : RecordData) → IsAhead s r → ⊥) × (HasWaiting s.book s.held → ⊥)

-- a record of the facts that is alive at their position
abbrev pub IsAliveOf : List Fact → Position → RecordData → Type 0
IsAliveOf facts p r = Contains (records facts) r × IsAlive (cuts facts) p.epoch r.epoch r.number

-- each such record is linked
abbrev pub AllLinked : List Fact → Position → Type 0
AllLinked facts p = (r : RecordData) → IsAliveOf facts p r → IsLinked facts p.epoch r.number

-- A record of the log with the LSN n is not among the facts, and the complete point is below it: one of the facts' alive records
-- names it as its segment backlink, and none of them has an LSN above the complete point and up to n.
pub record LacksRecord (log facts : List Fact) (p : Position) (n : ℕ) : Type 0 where
  pub missing : RecordData
  pub of_log : Contains (records log) missing
  pub not_of_facts : Contains (records facts) missing → ⊥
  pub alive : IsAlive (cuts facts) p.epoch missing.epoch missing.number
  pub number : missing.number ≡ n
  pub above : p.complete < n
  pub named : (r : RecordData) × IsAliveOf facts p r × (r.back ≡ n)
  pub next : (r : RecordData) → IsAliveOf facts p r → p.complete < r.number → n < r.number

-- All that is alive is linked, and records wait: the log has the truncation of the next epoch, and the facts do not.
pub record LacksTruncation (log facts : List Fact) (p : Position) (epoch : ℕ) : Type 0 where
  pub linked : AllLinked facts p
  pub waiting : (r : RecordData) × Contains (records facts) r × IsWaiting p.epoch r.epoch
  pub next : epoch ≡ p.epoch + 1
  pub of_log : (c : CutData) × Contains (cuts log) c × (c.epoch ≡ epoch)
  pub missing : LacksCut (cuts facts) epoch

-- the gap of facts of a sound log at the position p; with none, no record waits, and each alive one is linked
abbrev pub IsGapAt : List Fact → List Fact → Position → Option Gap → Type 0
IsGapAt log facts p (Some (Record n)) = LacksRecord log facts p n
IsGapAt log facts p (Some (Truncation epoch)) = LacksTruncation log facts p epoch
IsGapAt log facts p None = AllLinked facts p × ((r : RecordData) → Contains (records facts) r → IsWaiting p.epoch r.epoch → ⊥)
