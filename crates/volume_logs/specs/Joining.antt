-- What a machine shows of its facts and fronts, so that the rules of the protocol are kept one moment more.
use Rattle.std.specs.Prelude.{◌≡◌, ℕ, suc, ◌<◌, ◌≤◌, List, [], ◌++◌, None}
use Rattle.std.specs.List.{Contains}
use Rattle.redo_core.specs.Data.{RecordData, CutData}
use Rattle.redo_core.specs.Shape.{cut_fault}
use Rattle.redo_core.specs.Sets.{IsPart}
use Rattle.redo_core.specs.Roster.{IsRoster}
use Rattle.redo_core.specs.Position.{Position, IsPosition}
use Rattle.redo_core.specs.declared.facts.Fact.{Fact}
use Rattle.redo_core.specs.declared.facts.Fact.TheVariants.{Record}
use Rattle.volume_theorems.specs.Nodes.{Content, GrowsTo}
use Rattle.volume_theorems.specs.Runs.{VolumeRun, Many}
use Rattle.volume_theorems.specs.Opening.{IsInQuorum, HasGathered, HasShown, AnswersUnder, IsCutSent, IsUnion}
use Rattle.volume_theorems.specs.Stopping.{FollowsUntil}
use Rattle.volume_theorems.specs.ByMoment.{HasOpenedBy, IsDurableBy}
use Rattle.volume_theorems.specs.Contents.{IsContentOf}
use Rattle.volume_logs.specs.Histories.{History, log_at}
use Rattle.volume_logs.specs.Emitting.{IsWriter, IsContentIn, IsEmitted}

-- ---- one moment more
-- The rules about what is emitted, at the moment t + 1, as against the moment t. What a node has then was emitted before the moment t.
pub record EmitsNext (run : VolumeRun) (h : History) (t : ℕ) : Type 0 where
  pub shaped : (k : ℕ) → 1 ≤ k → k ≤ h.newest (suc t) → cut_fault (h.cuts k) ≡ None
  pub sent : (k : ℕ) → 1 ≤ k → k ≤ h.newest (suc t) → IsCutSent run (suc t) (h.cuts k)
  pub newest : (c : CutData) → IsCutSent run (suc t) c → c.epoch ≤ h.newest (suc t)
  pub grows : (k : ℕ) → (more : List Fact) × (h.written (suc t) k ≡ h.written t k ++ more)
  pub writers : (k : ℕ) (f : Fact) → Contains (h.written (suc t) (suc k)) f → (e : ℕ) × IsWriter run h (suc t) k e
  pub held : (i : ℕ) → IsContentIn (log_at h t) (run.nodes (suc t) i).content

abbrev pub EmittedOn : Type 0
EmittedOn = (run : VolumeRun) (h : History) (t : ℕ) → IsEmitted run h t → EmitsNext run h t → IsEmitted run h (suc t)

-- nothing is emitted before the first moment
pub record IsBlank (h : History) : Type 0 where
  pub roster : IsRoster h.readers
  pub epochs : (k : ℕ) → (h.cuts k).epoch ≡ k
  pub newest : h.newest 0 ≡ 0
  pub written : (k : ℕ) → h.written 0 k ≡ []

abbrev pub EmittedFirst : Type 0
EmittedFirst = (run : VolumeRun) (h : History) → FollowsUntil run 0 → IsBlank h → IsEmitted run h 0

-- ---- facts and fronts
-- More facts of the log leave a later content, which has no truncation that was not sent.
abbrev pub PartsKeepRules : Type 0
PartsKeepRules =
    (run : VolumeRun) (h : History) (t : ℕ) (part larger : List Fact) (a b : Content) → FollowsUntil run t → IsEmitted run h t
    → IsPart part larger → IsPart larger (log_at h t) → IsContentOf part a → IsContentOf larger b
    → GrowsTo a b × ((c : CutData) → Contains b.cuts c → IsCutSent run t c)

-- Facts of the log that have what each node of a quorum has shown are a union.
abbrev pub PartsUnite : Type 0
PartsUnite =
    (run : VolumeRun) (h : History) (t e : ℕ) (union : List Fact) (u : Content) → FollowsUntil run t → IsEmitted run h t
    → HasGathered run e → IsPart union (log_at h t) → IsContentOf union u
    → ((i : ℕ) → IsInQuorum run e i → (p : ℕ) × (p < t) × HasShown run e i p × IsContentIn union (run.nodes p i).content)
    → IsUnion run e t u

-- the node's front is of the epoch, and at or above the point
pub record IsFrontAbove (run : VolumeRun) (h : History) (s i epoch point : ℕ) : Type 0 where
  pub part : List Fact
  pub inner : IsPart part (log_at h s)
  pub content : IsContentOf part (run.nodes s i).content
  pub front : Position
  pub position : IsPosition h.readers part front
  pub epoch_is : front.epoch ≡ epoch
  pub reached : point ≤ front.complete

-- Fronts of a quorum, as the engine that writes the epoch hears them, make a record of page 0 durable.
abbrev pub FrontsMakeDurable : Type 0
FrontsMakeDurable =
    (run : VolumeRun) (h : History) (stop t e k : ℕ) (r : RecordData) → FollowsUntil run stop → IsEmitted run h stop → t ≤ stop
    → HasOpenedBy run t e (suc k) → Contains (h.written t (suc k)) (Record r) → r.page ≡ 0
    → Many run (λ i. (s : ℕ) × (s ≤ t) × AnswersUnder run e s i × IsFrontAbove run h s i (suc k) r.number)
    → IsDurableBy run t e (suc k) r.number
