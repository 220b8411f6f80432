-- Readers that are past a truncation of a later epoch: they never read what it annuls.
use Rattle.std.specs.Prelude.{◌≡◌, ◌≢◌, ℕ, ◌<◌, ◌⊎◌, List, length}
use Rattle.std.specs.List.{Contains}
use Rattle.redo_core.specs.Data.{CutData, AdvanceData}
use Rattle.redo_core.specs.Roster.{IsReader, point_of}

-- the reader is past the truncation: an advance of it, of an epoch before the truncation's, has a point above its lo
abbrev pub IsPast : List AdvanceData → CutData → ℕ → Type 0
IsPast given c reader = (a : AdvanceData) × Contains given a × (a.reader ≡ reader) × (a.epoch < c.epoch) × (c.lo < a.point)

-- each reader of the roster is past it
abbrev pub ArePast : ℕ → List AdvanceData → CutData → Type 0
ArePast roster given c = (reader : ℕ) → IsReader roster reader → IsPast given c reader

-- By what is known of the advances the reader is past the truncation: its point, or one that waits for an epoch before the
-- truncation's, is above the lo.
abbrev pub IsKnownPast : List ℕ → List AdvanceData → CutData → ℕ → Type 0
IsKnownPast points waits c reader = (c.lo < point_of points reader) ⊎ IsPast waits c reader

-- each reader of the roster but one is known to be past it
abbrev pub OthersPast : List ℕ → List AdvanceData → CutData → ℕ → Type 0
OthersPast points waits c but = (reader : ℕ) → IsReader (length points) reader → reader ≢ but → IsKnownPast points waits c reader

-- a truncation cuts below the point of an advance of an earlier epoch
abbrev pub Contradict : CutData → AdvanceData → Type 0
Contradict c a = (a.epoch < c.epoch) × (c.lo < a.point)

-- A truncation cuts below the point of an advance of an earlier epoch, and nobody is left who reads there: there is no other reader,
-- or the truncation's epoch is above the complete one and each other reader is known to be past it.
abbrev pub CutsBelow : ℕ → List ℕ → List AdvanceData → CutData → AdvanceData → Type 0
CutsBelow complete points waits c a = Contradict c a × ((length points ≡ 1) ⊎ ((complete < c.epoch) × OthersPast points waits c a.reader))
