use Rattle.std.proofs.Common.{◌≡◌, None, slice_index, arith}
use Rattle.std.proofs.lemmas.Grind.{common_steps}
use Rattle.text.specs.Number.{decimal_value}
use Rattle.text.specs.Parts.{parts_at}
use Rattle.script_text.proofs.Faults.{wrong_on}
use Rattle.script_text.proofs.field_reasons.wrong_field.Goals as goal

pub loop-i-preserved : goal.loop-i-preserved
loop-i-preserved c =
    let number : decimal_value (slice_index c.args.limits.now c.loop-i.i) c.next_field.result.0.now ≡ None → ⊥ = λ none. grind (arith, common_steps, none) in
    wrong_on c.args.limits.now (parts_at 32 c.args.text.now) (parts_at 32 c.loop-i.rest.now) c.loop-i.i c.next_field.result.0.now (parts_at 32 c.next_field.result.1.now)
    c.loop-i.invariant.0 c.loop-i.invariant.1 c.loop-i.invariant.2 c.next_field.ensures.first c.next_field.ensures.rest number
