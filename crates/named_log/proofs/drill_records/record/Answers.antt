use Rattle.std.proofs.Common.{◌≡◌, ◌∙◌, sym, None, subst}
use Rattle.std.proofs.lemmas.Option.{none-some}
use Rattle.redo_core.specs.Data.{RecordData, record_of}
use Rattle.redo_core.specs.Making.{RefusesToMake}
use Rattle.redo_core.specs.Shape.{record_fault}
use Rattle.named_log.specs.Soundness.Shapes.{shape}
use Rattle.named_log.proofs.drill_records.record.Goals as goal

-- a record of a drill has its shape
pub unreachable-requires : goal.unreachable-requires
unreachable-requires c =
    let s = shape c.args.epoch c.args.number c.args.back c.args.page c.args.block_back c.requires.number c.requires.back c.requires.block_back in
    let given : RecordData = record_of c.args.epoch c.args.number c.args.back c.args.page c.args.block_back c.in_ok-writes.writes.items in
    let t : record_fault given ≡ None = subst
    (λ ws. record_fault (record_of c.args.epoch c.args.number c.args.back c.args.page c.args.block_back ws) ≡ None) (sym c.in_ok-writes.ensures) s in
    absurd (none-some c.in-Shape.field-0 (sym t ∙ subst (RefusesToMake given) c.in-Shape.is c.in-Err.ensures.fault.1))
