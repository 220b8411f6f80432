-- Which facts add nothing to a state, and which ones conflict with it.
use Rattle.std.specs.Prelude.{◌≡◌, ◌≢◌, ◌<◌, ◌⊎◌}
use Rattle.std.specs.List.{Contains}
use Rattle.redo_core.specs.Data.{RecordData, CutData}
use Rattle.redo_core.specs.Roster.{IsReader}
use Rattle.redo_core.specs.Past.{OthersPast, CutsBelow}
use Rattle.redo_core.specs.Standing.{IsAlive, IsDead}
use Rattle.redo_core.specs.Book.{roster_of}
use Rattle.redo_core.specs.Learning.{KnowsAdvance}
use Rattle.redo_core.specs.declared.facts.Fact.{Fact}
use Rattle.redo_core.specs.declared.facts.Fact.TheVariants.{Record, Cut, Advance}
use Rattle.segment_theorems.specs.State.{State, min_of}
use Rattle.segment_theorems.specs.HasMeaning.{IsStable}

-- The fact is known. A record: it is dead, stored, or alive at or below the anchor. A truncation: it is stored.
-- An advance: it is effective and its point is not above its reader's, or it waits already.
abbrev pub IsKnown : State → Fact → Type 0
IsKnown s (Record r) =
    IsDead s.book.cuts s.book.complete r.epoch r.number
    ⊎ (Contains s.held r ⊎ (IsAlive s.book.cuts s.book.complete r.epoch r.number × IsStable s r.number))
IsKnown s (Cut c) = Contains s.book.cuts c
IsKnown s (Advance a) = KnowsAdvance s.book a

-- The fact and what is stored are not of one sound log. A record: another one of its key is stored. A truncation: another one
-- of its epoch is stored, or it is not stored and its lo is below the minimum, or each reader is known to be past it.
-- An advance: its reader is not of the roster, or a stored truncation of a later epoch cuts below its point.
abbrev pub Conflicts : State → Fact → Type 0
Conflicts s (Record r) = (other : RecordData) × Contains s.held other × (other.epoch ≡ r.epoch) × (other.number ≡ r.number) × (other ≢ r)
Conflicts s (Cut c) =
    ((other : CutData) × Contains s.book.cuts other × (other.epoch ≡ c.epoch) × (other ≢ c))
    ⊎ ((Contains s.book.cuts c → ⊥) × ((c.lo < min_of s) ⊎ OthersPast s.book.points s.book.waits c 0))
Conflicts s (Advance a) =
    (IsReader (roster_of s.book) a.reader → ⊥)
    ⊎ ((c : CutData) × Contains s.book.cuts c × CutsBelow s.book.complete s.book.points s.book.waits c a)
