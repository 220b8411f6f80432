-- What a writer refuses, by the fault of the record that it would make.
use Rattle.std.proofs.Common.{◌≡◌, ℕ, ◌<◌, ◌∙◌, cond, inl, inr, refl, ap, List, None}
use Rattle.std.specs.Prelude.{Bool, Option, Some}
use Rattle.std.proofs.lemmas.Bool.{lt-ltb}
use Rattle.redo_core.specs.Data.{RecordData}
use Rattle.redo_core.specs.Making.{RefusesToMake}
use Rattle.redo_core.specs.Shape.{record_fault}
use Rattle.redo_core.specs.declared.facts.Fact.{Fact}
use Rattle.redo_core.specs.declared.patches.Patch.{Patch}
use Rattle.redo_core.specs.declared.records.RecordFault.{RecordFault}
use Rattle.redo_core.specs.declared.records.RecordFault.TheVariants.{Shape, Memory}
use Rattle.redo_core.specs.declared.shapes.ShapeFault.{ShapeFault}
use Rattle.log_law.specs.Writing.{IsBound}
use Rattle.log_law.specs.declared.writer.WriterFault.TheVariants.{NumberNotAbove}
use Rattle.redo_writer.specs.State.{WriterState}
use Rattle.redo_writer.specs.Refusals.{append_refusal, shape_first, contents_fault, writer_fault, RefusesPreview, RefusesRecord, RefusesOnLog}

-- a record whose number is above the last one has no fault but one of its shape
by_shape : (w : WriterState) (r : RecordData) (shape : Option ShapeFault) → record_fault r ≡ shape → w.last < r.number → append_refusal w r ≡ shape_first shape None
by_shape w r shape same above =
    ap (λ (b : Bool). cond b (shape_first (record_fault r) None) (Some (NumberNotAbove w.last))) (lt-ltb w.last r.number above)
    ∙ ap (λ (o : Option ShapeFault). shape_first o None) same

pub preview_refused : (w : WriterState) (r : RecordData) (f : RecordFault) → RefusesToMake r f → w.last < r.number → RefusesPreview w r (writer_fault f)
preview_refused w r (Shape fault) made above = inl (by_shape w r (Some fault) made above)
preview_refused w r Memory made above = inr (refl, by_shape w r None made above)

pub refused_as : (w : WriterState) (r : RecordData) (f : RecordFault) → RefusesToMake r f → w.last < r.number → RefusesRecord w r (writer_fault f)
refused_as w r (Shape fault) made above = inl (by_shape w r (Some fault) made above)
refused_as w r Memory made above = inr (refl, above)

-- the same by what the log says
pub refused_on_log : (log : List Fact) (number : ℕ) (patches : List Patch) (r : RecordData) (f : RecordFault) → RefusesToMake r f
    → contents_fault number patches ≡ record_fault r → ((bound : ℕ) × IsBound log bound × (bound < number)) → RefusesOnLog log number patches (writer_fault f)
refused_on_log log number patches r (Shape fault) made same bound = same ∙ made
refused_on_log log number patches r Memory made same bound = bound
