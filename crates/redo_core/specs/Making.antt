-- Why a record is not made.
use Rattle.std.specs.Prelude.{◌≡◌, Some, None}
use Rattle.redo_core.specs.Data.{RecordData}
use Rattle.redo_core.specs.Shape.{record_fault}
use Rattle.redo_core.specs.declared.records.RecordFault.{RecordFault}
use Rattle.redo_core.specs.declared.records.RecordFault.TheVariants.{Shape, Memory}

-- the first fault of its shape; `Memory` only where the shape has none
abbrev pub RefusesToMake : RecordData → RecordFault → Type 0
RefusesToMake given (Shape fault) = record_fault given ≡ Some fault
RefusesToMake given Memory = record_fault given ≡ None
