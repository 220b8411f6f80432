use Rattle.std.proofs.Common.{◌≡◌, ◌≤◌, drop}
use Rattle.std.specs.Str.{all_ascii_digits}
use Rattle.text.specs.Number.{value_from}
use Rattle.node_stream.proofs.wide.wide_digits.Given as goal

abbrev pub invariant-loop-c : goal.invariant-loop-c
invariant-loop-c l = (all_ascii_digits (drop l.c-index l.word) ≡ all_ascii_digits l.word) × (value_from l.value (drop l.c-index l.word) ≡ value_from 0 l.word)
    × (l.value ≤ l.limit)
