-- How an engine goes on with the log of a volume, from what its quorum has.
use Rattle.std.specs.Prelude.{◌≡◌, ℕ, suc, ◌<◌, ◌≤◌, List, [], ◌∷◌, ◌++◌, map, reverse, slice_index}
use Rattle.std.specs.List.{Contains}
use Rattle.redo_core.specs.Data.{RecordData, CutData}
use Rattle.redo_core.specs.Sets.{IsPart, records, cuts}
use Rattle.redo_core.specs.Order.{Lists, RecordBefore}
use Rattle.redo_core.specs.Standing.{IsAlive}
use Rattle.redo_core.specs.Position.{Position, IsPosition}
use Rattle.redo_core.specs.declared.facts.Fact.{Fact}
use Rattle.redo_core.specs.declared.facts.Fact.TheVariants.{Cut}
use Rattle.redo_writer.specs.declared.parts.AliveRecord.{AliveRecord}
use Rattle.redo_writer.specs.State.{WriterState}
use Rattle.redo_writer.specs.Tracks.{entry_of}
use Rattle.volume_theorems.specs.Runs.{VolumeRun}
use Rattle.volume_theorems.specs.Stopping.{FollowsUntil}
use Rattle.volume_logs.specs.Histories.{History, log_to}
use Rattle.volume_logs.specs.Emitting.{LacksAdvances, GoesOn, IsEmitted}
use Rattle.volume_logs.specs.PageLayout.{IsPageTop}

-- a record of the facts that is alive in the view, above the anchor
abbrev pub IsAliveAbove : List Fact → ℕ → ℕ → RecordData → Type 0
IsAliveAbove facts k anchor r = Contains (records facts) r × IsAlive (cuts facts) k r.epoch r.number × (anchor < r.number)

-- these are the alive records above the anchor, newest first
abbrev pub AreAliveAbove : List Fact → ℕ → ℕ → List AliveRecord → Type 0
AreAliveAbove facts k anchor entries =
    (listed : List RecordData) × Lists RecordBefore (IsAliveAbove facts k anchor) listed × (entries ≡ reverse (map entry_of listed))

-- The writer begins the truncation's epoch with what the union has, which has taken the truncation and is complete up to its lo: the readers'
-- points, the anchor, what is alive above it, and of each page the number at its end.
pub record IsResumed (readers : ℕ) (union : List Fact) (cut : CutData) (w : WriterState) : Type 0 where
  pub front : Position
  pub position : IsPosition readers union front
  pub at : front.epoch ≡ cut.epoch
  pub reached : cut.lo ≤ front.complete
  pub epoch : w.epoch ≡ cut.epoch
  pub last : w.last ≡ cut.hi
  pub points : w.points ≡ front.points
  pub settled : w.settled ≡ front.anchor
  pub tops : (page : ℕ) → IsPageTop union cut.epoch page cut.lo (slice_index w.page_tops page)
  pub alive : AreAliveAbove union cut.epoch front.anchor w.alive

-- Such a writer goes on from the epochs below, though the union is only a part of them.
abbrev pub ResumedGoesOn : Type 0
ResumedGoesOn =
    (run : VolumeRun) (h : History) (stop t k : ℕ) (union : List Fact) (w : WriterState)
    → FollowsUntil run stop → IsEmitted run h stop → t ≤ stop → suc k ≤ h.newest t
    → IsPart union (log_to h t k ++ Cut (h.cuts (suc k)) ∷ []) → IsResumed h.readers union (h.cuts (suc k)) w
    → (base : List Fact) × LacksAdvances base (log_to h t k) × GoesOn h.readers w base (h.cuts (suc k))
