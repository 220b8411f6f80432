use Rattle.std.proofs.Common.{◌≡◌, ◌+◌, ◌*◌, ◌-◌, ◌≤◌, ◌++◌, length, drop}
use Rattle.node_stream.specs.Telling.{numbers_behind}
use Rattle.node_stream.proofs.short.put_numbers.Given as goal

-- what is written, and then the other numbers
abbrev pub invariant-loop-number : goal.invariant-loop-number
invariant-loop-number l = record {
  all : l.text.items ++ numbers_behind (drop l.number-index l.numbers) ≡ l.fn.text.items ++ numbers_behind l.numbers;
  len : length l.text.items + 21 * (length l.numbers - l.number-index) ≤ length l.fn.text.items + 21 * length l.numbers;
}
