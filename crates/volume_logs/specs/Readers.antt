-- What a reader may count, who asks nodes and no engine.
use Rattle.std.specs.Prelude.{◌≡◌, ℕ, ◌≤◌, ◌↔◌, List, IsTrue}
use Rattle.std.specs.List.{Contains}
use Rattle.redo_core.specs.Data.{CutData}
use Rattle.redo_core.specs.Sets.{IsPart}
use Rattle.redo_core.specs.Position.{Position, IsPosition}
use Rattle.redo_core.specs.PageAt.{IsPageAt}
use Rattle.redo_core.specs.declared.facts.Fact.{Fact}
use Rattle.volume_theorems.specs.Runs.{VolumeRun, Many}
use Rattle.volume_theorems.specs.Opening.{IsCutSent}
use Rattle.volume_theorems.specs.Stopping.{FollowsUntil}
use Rattle.volume_theorems.specs.ByMoment.{IsDurableBy}
use Rattle.volume_theorems.specs.Contents.{IsContentOf}
use Rattle.volume_logs.specs.Histories.{History, log_at}
use Rattle.redo_writer.specs.Layout.{number_of}
use Rattle.volume_logs.specs.PageLayout.{generation_of, epoch_of_page}
use Rattle.volume_logs.specs.Emitting.{IsEmitted}

-- A reader counts node i, at the commit point, by one answer of the moment s: it is a member, its front is of the epoch, and page 0 at the
-- front's complete point was last written in that epoch, under the node's own generation or a later one, at the commit point.
pub record IsCounted (run : VolumeRun) (h : History) (s i epoch point : ℕ) : Type 0 where
  pub part : List Fact
  pub inner : IsPart part (log_at h s)
  pub content : IsContentOf part (run.nodes s i).content
  pub front : Position
  pub position : IsPosition h.readers part front
  pub member : IsTrue (run.nodes s i).is_member
  pub begun : 1 ≤ epoch
  pub epoch_is : front.epoch ≡ epoch
  pub image : List ℕ
  pub shown : IsPageAt part epoch 0 front.complete image
  pub own : epoch_of_page image ≡ epoch
  pub generation : (run.nodes s i).generation ≤ generation_of image
  pub point_is : number_of image ≡ point

-- a node was counted by the moment t, at or above the point
abbrev pub WasCountedAbove : VolumeRun → History → ℕ → ℕ → ℕ → ℕ → Type 0
WasCountedAbove run h t epoch point i = (s p : ℕ) × (s ≤ t) × (point ≤ p) × IsCounted run h s i epoch p

-- A commit point that a node was counted at, and a quorum of nodes at or above it, is durable in the epoch.
abbrev pub CountedIsDurable : Type 0
CountedIsDurable =
    (run : VolumeRun) (h : History) (stop t s i epoch point : ℕ) → FollowsUntil run stop → IsEmitted run h stop → t ≤ stop
    → s ≤ t → IsCounted run h s i epoch point → Many run (WasCountedAbove run h t epoch point)
    → (e : ℕ) × IsDurableBy run t e epoch point

-- What a truncation keeps is kept: by all that are sent for later epochs, and with its pages in each later view.
pub record StaysKept (run : VolumeRun) (h : History) (t : ℕ) (c : CutData) : Type 0 where
  pub sent : (d : CutData) → IsCutSent run t d → c.epoch ≤ d.epoch → c.lo ≤ d.lo
  pub pages : (k page q : ℕ) (image : List ℕ) → c.epoch ≤ k → k ≤ h.newest t → q ≤ c.lo
      → IsPageAt (log_at h t) c.epoch page q image ↔ IsPageAt (log_at h t) k page q image

-- So a reader may also take lo of a truncation that any node holds.
abbrev pub HeldLoIsKept : Type 0
HeldLoIsKept =
    (run : VolumeRun) (h : History) (stop t s i : ℕ) (c : CutData) → FollowsUntil run stop → IsEmitted run h stop → s ≤ t → t ≤ stop
    → Contains (run.nodes s i).content.cuts c → StaysKept run h t c
