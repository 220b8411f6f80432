-- The segment chain: which LSNs are linked in view k.
use Rattle.std.specs.Prelude.{ℕ, ◌<◌, List}
use Rattle.std.specs.List.{Contains}
use Rattle.redo_core.specs.Data.{RecordData, CutData}
use Rattle.redo_core.specs.Sets.{records, cuts}
use Rattle.redo_core.specs.Standing.{IsAlive}
use Rattle.redo_core.specs.declared.facts.Fact.{Fact}

-- The linked LSNs from a base on: the least set that has the base and the LSN of each alive record above it whose
-- segment backlink is in it.
pub data Linked (cs : List CutData) (rs : List RecordData) (k base : ℕ) : ℕ → Type 0 where
  start : Linked cs rs k base base
  next : (r : RecordData) → Contains rs r → IsAlive cs k r.epoch r.number → base < r.number → Linked cs rs k base r.back → Linked cs rs k base r.number

-- n is linked by the facts
abbrev pub IsLinked : List Fact → ℕ → ℕ → Type 0
IsLinked facts k n = Linked (cuts facts) (records facts) k 0 n

-- r is a linked record of the facts
pub record IsLinkedRecord (facts : List Fact) (k : ℕ) (r : RecordData) : Type 0 where
  pub among : Contains (records facts) r
  pub alive : IsAlive (cuts facts) k r.epoch r.number
  pub linked : IsLinked facts k r.number
