-- Facts: which there are, and the one encoding of each.
use Rattle.std.specs.Prelude.{◌≡◌, ℕ, ◌<◌, ◌^◌, Bool, List, ◌∷◌, ◌++◌, None, nat_lt}
use Rattle.redo_core.specs.Data.{CutData, AdvanceData}
use Rattle.redo_core.specs.Shape.{cut_fault, advance_fault}
use Rattle.redo_core.specs.declared.facts.Fact.{Fact}
use Rattle.redo_core.specs.declared.facts.Fact.TheVariants.{Record, Cut, Advance}
use Rattle.redo_wire.specs.Fields.{u16, u48}
use Rattle.redo_wire.specs.Tags.{cut_tag, advance_tag, reader_advance_tag}
use Rattle.redo_wire.specs.Forms.{form_bytes, byte_in}
use Rattle.redo_wire.specs.Records.{IsWireRecord, record_bytes}

-- ---- which there are: the shape rules hold, and the fields are within their ranges

pub record IsWireCut (c : CutData) : Type 0 where
  pub epoch : c.epoch < 2 ^ 16
  pub shape : cut_fault c ≡ None

pub record IsWireAdvance (a : AdvanceData) : Type 0 where
  pub epoch : a.epoch < 2 ^ 16
  pub shape : advance_fault a ≡ None

abbrev pub IsWireFact : Fact → Type 0
IsWireFact (Record r) = IsWireRecord r
IsWireFact (Cut c) = IsWireCut c
IsWireFact (Advance a) = IsWireAdvance a

-- ---- encoding

-- a truncation after its tag, and as an element of a list
abbrev pub cut_bytes : CutData → List ℕ
cut_bytes c = u16 c.epoch ++ u48 c.lo ++ u48 c.hi

-- an advance after its tag, and as an element of a list; the forms for several readers name the reader
abbrev pub advance_bytes : Bool → AdvanceData → List ℕ
advance_bytes many a = u16 a.epoch ++ byte_in many a.reader ++ u48 a.point

-- the advance is of another reader than 1
abbrev pub is_of_other : AdvanceData → Bool
is_of_other a = nat_lt 1 a.reader

-- an advance with its tag
abbrev pub tagged_advance_bytes : AdvanceData → List ℕ
tagged_advance_bytes a = form_bytes advance_tag reader_advance_tag (is_of_other a) ++ advance_bytes (is_of_other a) a

abbrev pub fact_bytes : Fact → List ℕ
fact_bytes (Record r) = record_bytes r
fact_bytes (Cut c) = cut_tag ∷ cut_bytes c
fact_bytes (Advance a) = tagged_advance_bytes a

-- the bytes encode the fact
abbrev pub EncodesFact : Fact → List ℕ → Type 0
EncodesFact f bytes = IsWireFact f × (bytes ≡ fact_bytes f)
