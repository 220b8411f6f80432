use Rattle.std.proofs.Common.{◌≡◌, ◌≤◌, drop}
use Rattle.text.specs.Parts.{parts_at}
use Rattle.script_text.specs.FieldReasons.{HasWrongField}
use Rattle.script_text.proofs.field_reasons.wrong_field.Given as goal

-- a wrong field is still to come, and the fields from here on
abbrev pub invariant-loop-i : goal.invariant-loop-i
invariant-loop-i l = (w : HasWrongField l.limits (parts_at 32 l.text)) × (l.i ≤ w.before) × (parts_at 32 l.rest ≡ drop l.i (parts_at 32 l.text))
