use Rattle.std.proofs.Common.{◌∷◌, [], sym, refl, ◌∙◌, ap}
use Rattle.redo_core.specs.Data.{record_with}
use Rattle.redo_core.specs.Shape.{record_fault, patches_fault}
use Rattle.redo_core.proofs.records.Record.with_one.Goals as goal

pub returns-in-Some-clause-none : goal.returns-in-Some-clause-none
returns-in-Some-clause-none c =
    rw (sym (c.in-Some.ensures c.args.head.epoch c.args.head.page c.args.init (c.args.patch ∷ [])
    (ap patches_fault (sym c.from_ref.ensures.value) ∙ sym c.patches_fault-contents.ensures))) refl

pub of_parts-requires : goal.of_parts-requires
of_parts-requires c =
    ap (λ ps. record_fault (record_with c.args.head.epoch c.args.head.number c.args.head.back c.args.head.page c.args.head.block_back c.args.init ps)) c.in_ok-body-in-None.ensures
    ∙ sym (c.in-None.ensures c.args.head.epoch c.args.head.page c.args.init (c.args.patch ∷ [])
    (ap patches_fault (sym c.from_ref.ensures.value) ∙ sym c.patches_fault-contents.ensures))

pub returns-in_ok-of_parts-in-None-clause-some : goal.returns-in_ok-of_parts-in-None-clause-some
returns-in_ok-of_parts-in-None-clause-some c = (
  c.in_ok-of_parts-in-None.ensures.ok
      ∙ ap (λ ps. record_with c.args.head.epoch c.args.head.number c.args.head.back c.args.head.page c.args.head.block_back c.args.init ps) c.in_ok-body-in-None.ensures,
  sym (c.in-None.ensures c.args.head.epoch c.args.head.page c.args.init (c.args.patch ∷ [])
      (ap patches_fault (sym c.from_ref.ensures.value) ∙ sym c.patches_fault-contents.ensures)),
)
