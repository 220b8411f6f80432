use Rattle.std.proofs.Common.{◌≡◌, drop}
use Rattle.std.specs.Str.{all_ascii_digits}
use Rattle.script_text.proofs.field_reasons.is_digits.Given as goal

abbrev pub invariant-loop-c : goal.invariant-loop-c
invariant-loop-c l = all_ascii_digits (drop l.c-index l.word) ≡ all_ascii_digits l.word
