use Rattle.std.proofs.Common.{◌≡◌, length, arith}
use Rattle.std.proofs.lemmas.Grind.{common_steps}
use Rattle.text.specs.Parts.{parts_at}
use Rattle.script_text.proofs.Faults.{some_wrong}
use Rattle.script_text.proofs.field_reasons.fields_reason.Goals as goal

pub wrong_field-requires-clause-wrong : goal.wrong_field-requires-clause-wrong
wrong_field-requires-clause-wrong c =
    let many : length (parts_at 32 c.in-Some.text.now) ≡ length c.args.limits.now = grind (arith, common_steps) in
    some_wrong c.args.limits.now (parts_at 32 c.in-Some.text.now) (rw c.in-Some.is at c.requires.none) many
