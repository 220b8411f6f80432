-- Which points of the log are commit points.
use Rattle.std.specs.Prelude.{ℕ, ◌≤◌}
use Rattle.redo_core.specs.Data.{CutData}
use Rattle.volume_theorems.specs.Runs.{VolumeRun}
use Rattle.volume_theorems.specs.Opening.{IsCutSent}
use Rattle.volume_theorems.specs.Stopping.{FollowsUntil}
use Rattle.volume_theorems.specs.ByMoment.{IsDurableBy}
use Rattle.volume_theorems.specs.Contents.{IsCommitPoint}
use Rattle.volume_logs.specs.Histories.{History, log_at}
use Rattle.volume_logs.specs.Emitting.{IsEmitted}

-- The log is cut at commit points alone, so no view of it keeps a part of a mini-transaction.
abbrev pub CutsAtCommits : Type 0
CutsAtCommits =
    (run : VolumeRun) (h : History) (stop t : ℕ) (c : CutData) → FollowsUntil run stop → IsEmitted run h stop → t ≤ stop
    → IsCutSent run t c → IsCommitPoint (log_at h t) c.epoch c.lo

-- What is durable is a commit point of the log.
abbrev pub DurableIsCommit : Type 0
DurableIsCommit =
    (run : VolumeRun) (h : History) (stop t e epoch point : ℕ) → FollowsUntil run stop → IsEmitted run h stop → t ≤ stop
    → IsDurableBy run t e epoch point → IsCommitPoint (log_at h t) epoch point
