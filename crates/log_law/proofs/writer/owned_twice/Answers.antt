use Rattle.std.proofs.Common.{◌≡◌, ◌∙◌, sym, ap, None, subst}
use Rattle.std.proofs.lemmas.Option.{none-some}
use Rattle.std.specs.List.{each_same}
use Rattle.redo_core.specs.Data.{RecordData, record_of}
use Rattle.redo_core.specs.Making.{RefusesToMake}
use Rattle.redo_core.specs.Shape.{record_fault}
use Rattle.log_law.proofs.writer.owned_twice.Goals as goal

pub unreachable-requires : goal.unreachable-requires
unreachable-requires c =
    let copied : c.in_ok-clone.field-0.items ≡ c.args.writes.now.items = each_same c.args.writes.now.items c.in_ok-clone.field-0.items c.in_ok-clone.ensures.cases.0 in
    let given : RecordData = record_of c.args.epoch c.args.number c.args.back c.args.page c.args.block_back c.in_ok-clone.field-0.items in
    let none : record_fault given ≡ None =
    ap (λ ws. record_fault (record_of c.args.epoch c.args.number c.args.back c.args.page c.args.block_back ws)) copied ∙ c.requires in
    absurd (none-some c.in-Shape.field-0 (sym none ∙ subst (RefusesToMake given) c.in-Shape.is c.in-Err.ensures.fault.1))

pub returns-in_ok-copy-in-Ok : goal.returns-in_ok-copy-in-Ok
returns-in_ok-copy-in-Ok c =
    let copied : c.in_ok-clone.field-0.items ≡ c.args.writes.now.items = each_same c.args.writes.now.items c.in_ok-clone.field-0.items c.in_ok-clone.ensures.cases.0 in
    let is : c.in-Ok.redo ≡ record_of c.args.epoch c.args.number c.args.back c.args.page c.args.block_back c.args.writes.now.items =
    c.in-Ok.ensures.ok.0 ∙ ap (λ ws. record_of c.args.epoch c.args.number c.args.back c.args.page c.args.block_back ws) copied in
    (c.in_ok-copy-in-Ok.ensures ∙ is, is)
