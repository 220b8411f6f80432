-- Pages at a durable commit point, and below it.
use Rattle.std.specs.Prelude.{ℕ, ◌≤◌, ◌↔◌, List}
use Rattle.redo_core.specs.Sets.{IsPart}
use Rattle.redo_core.specs.Position.{Position, IsPosition}
use Rattle.redo_core.specs.PageAt.{IsPageAt}
use Rattle.redo_core.specs.declared.facts.Fact.{Fact}
use Rattle.volume_theorems.specs.Runs.{VolumeRun}
use Rattle.volume_theorems.specs.Stopping.{FollowsUntil}
use Rattle.volume_theorems.specs.ByMoment.{IsDurableBy}
use Rattle.volume_logs.specs.Histories.{History, log_at}
use Rattle.volume_logs.specs.Emitting.{IsEmitted}

-- In each view from the epoch on, pages up to a commit point that was durable in the epoch are those of the epoch's own view.
abbrev pub DurablePagesStay : Type 0
DurablePagesStay =
    (run : VolumeRun) (h : History) (stop t e epoch point k page q : ℕ) (image : List ℕ)
    → FollowsUntil run stop → IsEmitted run h stop → t ≤ stop → IsDurableBy run t e epoch point
    → epoch ≤ k → k ≤ h.newest t → q ≤ point
    → IsPageAt (log_at h t) epoch page q image ↔ IsPageAt (log_at h t) k page q image

-- And so are those of all facts of the log whose front is at or above it, whoever has them.
abbrev pub PartsShowDurable : Type 0
PartsShowDurable =
    (run : VolumeRun) (h : History) (stop t e epoch point : ℕ) (part : List Fact) (front : Position) (page q : ℕ) (image : List ℕ)
    → FollowsUntil run stop → IsEmitted run h stop → t ≤ stop → IsDurableBy run t e epoch point
    → IsPart part (log_at h t) → IsPosition h.readers part front → epoch ≤ front.epoch → point ≤ front.complete → q ≤ point
    → IsPageAt part front.epoch page q image → IsPageAt (log_at h t) epoch page q image

-- Nothing that is emitted later changes them.
abbrev pub DurablePagesLast : Type 0
DurablePagesLast =
    (run : VolumeRun) (h : History) (stop s t e epoch point page q : ℕ) (image : List ℕ)
    → FollowsUntil run stop → IsEmitted run h stop → s ≤ t → t ≤ stop → IsDurableBy run s e epoch point → q ≤ point
    → IsPageAt (log_at h s) epoch page q image ↔ IsPageAt (log_at h t) epoch page q image
