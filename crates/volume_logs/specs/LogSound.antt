-- The log of a volume is sound.
use Rattle.std.specs.Prelude.{ℕ, ◌≤◌}
use Rattle.redo_core.specs.Sets.{IsPart}
use Rattle.redo_core.specs.Sound.{IsSound}
use Rattle.volume_theorems.specs.Runs.{VolumeRun}
use Rattle.volume_theorems.specs.Stopping.{FollowsUntil}
use Rattle.volume_logs.specs.Histories.{History, log_to, log_at}
use Rattle.volume_logs.specs.Emitting.{IsEmitted}

-- What was emitted before a moment, in the order of epochs, is a sound log: also where engines of earlier epochs still write.
abbrev pub LogIsSound : Type 0
LogIsSound =
    (run : VolumeRun) (h : History) (stop t : ℕ) → FollowsUntil run stop → IsEmitted run h stop → t ≤ stop → IsSound h.readers (log_at h t)

-- So is what was emitted for the epochs up to one of them.
abbrev pub EpochsAreSound : Type 0
EpochsAreSound =
    (run : VolumeRun) (h : History) (stop t k : ℕ) → FollowsUntil run stop → IsEmitted run h stop → t ≤ stop → k ≤ h.newest t
    → IsSound h.readers (log_to h t k)

-- The log loses no fact.
abbrev pub LogGrows : Type 0
LogGrows =
    (run : VolumeRun) (h : History) (stop s t : ℕ) → IsEmitted run h stop → s ≤ t → t ≤ stop → IsPart (log_at h s) (log_at h t)
