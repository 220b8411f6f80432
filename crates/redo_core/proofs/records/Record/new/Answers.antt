use Rattle.std.proofs.Common.{sym, refl, ◌∙◌, ap}
use Rattle.redo_core.specs.Data.{record_of}
use Rattle.redo_core.specs.Shape.{record_fault}
use Rattle.redo_core.proofs.records.Record.new.Goals as goal

pub returns-in-Some-clause-fault : goal.returns-in-Some-clause-fault
returns-in-Some-clause-fault c = (
  refl,
  ap (λ ws. record_fault (record_of c.args.epoch c.args.number c.args.back c.args.page c.args.block_back ws)) (sym c.deref.ensures.value)
      ∙ sym (c.shape_fault.ensures c.args.epoch c.args.page) ∙ c.in-Some.is,
)

pub of_writes-requires : goal.of_writes-requires
of_writes-requires c =
    ap (λ ws. record_fault (record_of c.args.epoch c.args.number c.args.back c.args.page c.args.block_back ws)) (sym c.deref.ensures.value)
    ∙ sym (c.shape_fault.ensures c.args.epoch c.args.page) ∙ c.in_default.is

pub returns-in-Ok-clause-ok : goal.returns-in-Ok-clause-ok
returns-in-Ok-clause-ok c = (
  c.in-Ok.ensures.ok,
  ap (λ ws. record_fault (record_of c.args.epoch c.args.number c.args.back c.args.page c.args.block_back ws)) (sym c.deref.ensures.value)
      ∙ sym (c.shape_fault.ensures c.args.epoch c.args.page) ∙ c.in_default.is,
)

pub returns-in-Err-clause-fault : goal.returns-in-Err-clause-fault
returns-in-Err-clause-fault c = (
  c.in-Err.ensures.err,
  ap (λ ws. record_fault (record_of c.args.epoch c.args.number c.args.back c.args.page c.args.block_back ws)) (sym c.deref.ensures.value)
      ∙ sym (c.shape_fault.ensures c.args.epoch c.args.page) ∙ c.in_default.is,
)
