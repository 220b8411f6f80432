use Rattle.std.proofs.Common.{sym, refl, ◌∙◌, ap}
use Rattle.redo_core.specs.Shape.{patches_fault}
use Rattle.redo_core.proofs.records.Record.with.Goals as goal

pub returns-in-Some-clause-fault : goal.returns-in-Some-clause-fault
returns-in-Some-clause-fault c = (
  refl,
  sym (c.first_fault.ensures c.args.epoch c.args.page c.args.init c.args.patches.items
      (ap patches_fault (sym c.deref.ensures.value) ∙ sym c.patches_fault.ensures)) ∙ c.in-Some.is,
)

pub of_patches-requires : goal.of_patches-requires
of_patches-requires c =
    sym (c.first_fault.ensures c.args.epoch c.args.page c.args.init c.args.patches.items
    (ap patches_fault (sym c.deref.ensures.value) ∙ sym c.patches_fault.ensures)) ∙ c.in_default.is

pub returns-in-Ok-clause-ok : goal.returns-in-Ok-clause-ok
returns-in-Ok-clause-ok c = (
  c.in-Ok.ensures.ok,
  sym (c.first_fault.ensures c.args.epoch c.args.page c.args.init c.args.patches.items
      (ap patches_fault (sym c.deref.ensures.value) ∙ sym c.patches_fault.ensures)) ∙ c.in_default.is,
)

pub returns-in-Err-clause-fault : goal.returns-in-Err-clause-fault
returns-in-Err-clause-fault c = (
  c.in-Err.ensures.err,
  sym (c.first_fault.ensures c.args.epoch c.args.page c.args.init c.args.patches.items
      (ap patches_fault (sym c.deref.ensures.value) ∙ sym c.patches_fault.ensures)) ∙ c.in_default.is,
)
