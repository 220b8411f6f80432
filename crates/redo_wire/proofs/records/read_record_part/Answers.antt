use Rattle.std.proofs.Common.{arith, sym, ◌∙◌}
use Rattle.std.proofs.lemmas.Option.{none-some}
use Rattle.redo_wire.proofs.RecordReaders.{record_part_steps}
use Rattle.redo_wire.proofs.records.read_record_part.Goals as goal

-- no record that was judged on the way is refused for its shape in the end
pub returns-in-Shape : goal.returns-in-Shape
returns-in-Shape c =
    let judged = rw c.deref.ensures.value at c.may_have_form.ensures in
    let s = record_part_steps c.args.is_full c.args.bytes.now (c.in_ok-head.head, c.in_ok-head.rest.now) (c.in_ok-flags.flags, c.in_ok-flags.rest.now)
    (c.in_ok-count.count, c.in_ok-count.rest.now) (c.in_ok-patches.patches.items, c.in_ok-patches.rest.now)
    (λ i. omega (arith, c.type_inv.bytes i)) c.in_ok-head.ensures c.in_ok-flags.ensures c.in_ok-count.ensures (omega arith) c.in_ok-patches.ensures
    (sym judged ∙ c.if-not-may_have_form.false) in
    let fault = rw c.in-Shape.is at c.in-Err.ensures.fault.1 in
    absurd (none-some c.in-Shape.field-0 (sym s.1.0.shape ∙ fault))
