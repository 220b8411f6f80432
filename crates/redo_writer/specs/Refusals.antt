-- What a writer refuses, and why.
use Rattle.std.specs.Prelude.{◌≡◌, ℕ, ◌<◌, ◌≤◌, ◌⊎◌, ◌==◌, nat_lt, length, false, List, Option, Some, None, if◌then◌else◌}
use Rattle.redo_core.specs.Data.{RecordData, record_with, cut_of, advance_of}
use Rattle.redo_core.specs.Shape.{record_fault, cut_fault, advance_fault}
use Rattle.redo_core.specs.Roster.{least}
use Rattle.redo_core.specs.declared.facts.Fact.{Fact}
use Rattle.redo_core.specs.declared.patches.Patch.{Patch}
use Rattle.log_law.specs.Writing.{IsBound}
use Rattle.redo_core.specs.declared.shapes.ShapeFault.{ShapeFault}
use Rattle.redo_core.specs.declared.records.RecordFault.{RecordFault}
use Rattle.redo_core.specs.declared.records.RecordFault.TheVariants.{Shape as Misshapen, Memory as NoMemory}
use Rattle.log_law.specs.declared.writer.WriterFault.{WriterFault}
use Rattle.log_law.specs.declared.writer.WriterFault.TheVariants.{Shape, LoBelowAdvance, NumberNotAbove, OtherRoster, EpochsUsedUp, Memory}
use Rattle.redo_writer.specs.State.{WriterState}

-- the fault of a record, as a writer gives it
abbrev pub writer_fault : RecordFault → WriterFault
writer_fault (Misshapen fault) = Shape fault
writer_fault NoMemory = Memory

-- a fault of the shape, or else what comes after it
abbrev pub shape_first : Option ShapeFault → Option WriterFault → Option WriterFault
shape_first (Some fault) other = Some (Shape fault)
shape_first None other = other

abbrev pub append_refusal : WriterState → RecordData → Option WriterFault
append_refusal w r = if nat_lt w.last r.number then shape_first (record_fault r) None else Some (NumberNotAbove w.last)

-- the fault of a record that is not kept; `Memory` only where it has none
abbrev pub RefusesPreview : WriterState → RecordData → WriterFault → Type 0
RefusesPreview w r fault = (append_refusal w r ≡ Some fault) ⊎ ((fault ≡ Memory) × (append_refusal w r ≡ None))

-- lack of memory hides a fault of the shape, and no other
abbrev pub RefusesRecord : WriterState → RecordData → WriterFault → Type 0
RefusesRecord w r fault = (append_refusal w r ≡ Some fault) ⊎ ((fault ≡ Memory) × (w.last < r.number))

-- the first fault that a record of this number and these patches has whatever its backlinks are
abbrev pub contents_fault : ℕ → List Patch → Option ShapeFault
contents_fault number patches = record_fault (record_with 0 number 0 0 0 false patches)

-- the same refusal by what the log says: it is never for a fault of the backlinks
abbrev pub RefusesOnLog : List Fact → ℕ → List Patch → WriterFault → Type 0
RefusesOnLog log number patches (Shape fault) = contents_fault number patches ≡ Some fault
RefusesOnLog log number patches (LoBelowAdvance point) = ⊥
RefusesOnLog log number patches (NumberNotAbove bound) = IsBound log bound × (number ≤ bound)
RefusesOnLog log number patches (OtherRoster own shown) = ⊥
RefusesOnLog log number patches EpochsUsedUp = ⊥
RefusesOnLog log number patches Memory = (bound : ℕ) × IsBound log bound × (bound < number)

abbrev pub recover_refusal : WriterState → ℕ → ℕ → Option WriterFault
recover_refusal w lo hi = shape_first (cut_fault (cut_of 1 lo hi)) (
    if nat_lt lo (least w.points) then Some (LoBelowAdvance (least w.points))
    else if w.epoch == 65535 then Some EpochsUsedUp
    else None)

abbrev pub advance_refusal : WriterState → ℕ → ℕ → Option WriterFault
advance_refusal w reader point = shape_first (advance_fault (advance_of w.epoch reader point)) (
    if nat_lt (length w.points) reader then Some (OtherRoster (length w.points) reader)
    else None)
