-- What two books know together.
use Rattle.std.specs.Prelude.{◌≡◌, ℕ, ◌<◌, ◌≤◌, ◌⊎◌, ◌↔◌, List, length}
use Rattle.std.specs.List.{Contains}
use Rattle.redo_core.specs.Data.{CutData, AdvanceData}
use Rattle.redo_core.specs.Order.{IsGreatest}
use Rattle.redo_core.specs.CompleteEpoch.{IsCompleteEpoch}
use Rattle.redo_core.specs.Roster.{IsReader, point_of}
use Rattle.redo_core.specs.Book.{BookData}

-- n is the reader's point on one side, or on the other, or that of an advance that waited on a side and waits no longer
abbrev pub JoinedPoint : ℕ → List ℕ → List AdvanceData → List ℕ → List AdvanceData → ℕ → ℕ → Type 0
JoinedPoint k ps ws qs vs reader n =
    (n ≡ point_of ps reader)
    ⊎ ((n ≡ point_of qs reader) ⊎ ((a : AdvanceData) × (Contains ws a ⊎ Contains vs a) × (a.epoch ≤ k) × (a.reader ≡ reader) × (a.point ≡ n)))

-- each reader's point is the greatest of those
pub record JoinsPoints (k : ℕ) (ps : List ℕ) (ws : List AdvanceData) (qs : List ℕ) (vs : List AdvanceData) (joined : List ℕ) : Type 0 where
  pub count : length joined ≡ length ps
  pub each : (reader : ℕ) → IsReader (length ps) reader → IsGreatest (JoinedPoint k ps ws qs vs reader) (point_of joined reader)

-- The truncations of both; what waited on a side for an epoch up to the complete one of these takes effect.
pub record JoinsBooks (old other new : BookData) : Type 0 where
  pub cuts : (c : CutData) → Contains new.cuts c ↔ (Contains old.cuts c ⊎ Contains other.cuts c)
  pub complete : IsCompleteEpoch new.cuts new.complete
  pub points : JoinsPoints new.complete old.points old.waits other.points other.waits new.points
  pub waits : (a : AdvanceData) → Contains new.waits a ↔ ((Contains old.waits a ⊎ Contains other.waits a) × (new.complete < a.epoch))
