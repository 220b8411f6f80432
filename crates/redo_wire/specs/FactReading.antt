-- Reading facts. The order of the lines is the order of the faults.
use Rattle.std.specs.Prelude.{ℕ, Bool, List, Result, Ok, nat_lt, nat_le, ◌==◌, ◌||◌, if◌then◌else◌}
use Rattle.redo_core.specs.Data.{CutData, AdvanceData, cut_of, advance_of}
use Rattle.redo_core.specs.Shape.{max_readers}
use Rattle.redo_core.specs.declared.facts.Fact.{Fact}
use Rattle.redo_core.specs.declared.facts.Fact.TheVariants.{Record, Cut, Advance}
use Rattle.redo_wire.specs.declared.faults.WireFault.{WireFault}
use Rattle.redo_wire.specs.Reading.{◌>>=◌, Read, shaped, mapped, whole}
use Rattle.redo_wire.specs.Fields.{byte_at, u16_at, u48_at}
use Rattle.redo_wire.specs.Tags.{record_tag, full_record_tag, cut_tag, advance_tag, reader_advance_tag}
use Rattle.redo_wire.specs.Forms.{form_at, within_at}
use Rattle.redo_wire.specs.RecordReading.{record_at}

-- a truncation after its tag, and as an element of a list
unfoldable pub cut_at : List ℕ → Read CutData
cut_at bytes = do
  epoch ← shaped (λ e. nat_lt 0 e) (u16_at bytes)
  lo ← u48_at epoch.1
  hi ← shaped (λ h. nat_le lo.0 h) (u48_at lo.1)
  Ok (cut_of epoch.0 lo.0 hi.0, hi.1)

-- an advance of an epoch from `least` on, and of a reader from `first` to `last` in the forms for several readers
unfoldable pub advance_at : Bool → ℕ → ℕ → ℕ → List ℕ → Read AdvanceData
advance_at many least first last bytes = do
  epoch ← shaped (λ e. nat_le least e) (u16_at bytes)
  reader ← within_at many 1 first last epoch.1
  point ← shaped (λ p. nat_lt 0 p) (u48_at reader.1)
  Ok (advance_of epoch.0 reader.0 point.0, point.1)

-- an advance with its tag: of reader 1, or of one of the others
unfoldable pub tagged_advance_at : List ℕ → Read AdvanceData
tagged_advance_at bytes = do
  many ← form_at advance_tag reader_advance_tag bytes
  advance_at many.0 0 2 max_readers many.1

unfoldable pub fact_at : List ℕ → Read Fact
fact_at bytes = do
  tag ← byte_at bytes
  if tag.0 == record_tag || tag.0 == full_record_tag then mapped Record (record_at bytes)
      else if tag.0 == cut_tag then mapped Cut (cut_at tag.1)
      else mapped Advance (tagged_advance_at bytes)

-- the fact that all of the bytes encode, or the first fault
abbrev pub decoded_fact : List ℕ → Result Fact WireFault
decoded_fact bytes = whole (fact_at bytes)
