-- What the writer's refusals are by name.
use Rattle.std.proofs.Common.{◌≡◌, ℕ, nat_lt, length, Option, Some, None, ap, if◌then◌else◌}
use Rattle.redo_core.specs.Data.{advance_of}
use Rattle.redo_core.specs.Shape.{advance_fault}
use Rattle.redo_core.specs.declared.shapes.ShapeFault.{ShapeFault}
use Rattle.log_law.specs.declared.writer.WriterFault.{WriterFault}
use Rattle.log_law.specs.declared.writer.WriterFault.TheVariants.{Shape, OtherRoster}
use Rattle.redo_writer.specs.State.{WriterState}
use Rattle.redo_writer.specs.Refusals.{advance_refusal, shape_first}

-- a fault of the shape comes first
pub shape_refused : (w : WriterState) (reader point : ℕ) (why : ShapeFault) → advance_fault (advance_of w.epoch reader point) ≡ Some why
    → advance_refusal w reader point ≡ Some (Shape why)
shape_refused w reader point why fault =
    let other : Option WriterFault = if nat_lt (length w.points) reader then Some (OtherRoster (length w.points) reader) else None in
    ap (λ (o : Option ShapeFault). shape_first o other) fault
