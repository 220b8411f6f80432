-- Sets of facts. A set is a list of which only the members matter.
use Rattle.std.specs.Prelude.{◌↔◌, List, Option, Some, None}
use Rattle.std.specs.List.{Contains, filter_map}
use Rattle.redo_core.specs.Data.{RecordData, CutData, AdvanceData}
use Rattle.redo_core.specs.declared.facts.Fact.{Fact}
use Rattle.redo_core.specs.declared.facts.Fact.TheVariants.{Record, Cut, Advance}

-- each member of xs is one of ys
abbrev pub IsPart : {X : Type 0} → List X → List X → Type 0
IsPart {X} xs ys = (x : X) → Contains xs x → Contains ys x

-- the two sets are equal
abbrev pub SameSet : {X : Type 0} → List X → List X → Type 0
SameSet {X} xs ys = (x : X) → Contains xs x ↔ Contains ys x

abbrev pub as_record : Fact → Option RecordData
as_record (Record r) = Some r
as_record (Cut c) = None
as_record (Advance a) = None

abbrev pub as_cut : Fact → Option CutData
as_cut (Record r) = None
as_cut (Cut c) = Some c
as_cut (Advance a) = None

abbrev pub as_advance : Fact → Option AdvanceData
as_advance (Record r) = None
as_advance (Cut c) = None
as_advance (Advance a) = Some a

-- the records, the truncations and the advances among facts
unfoldable pub records : List Fact → List RecordData
records facts = filter_map as_record facts

unfoldable pub cuts : List Fact → List CutData
cuts facts = filter_map as_cut facts

unfoldable pub advances : List Fact → List AdvanceData
advances facts = filter_map as_advance facts
