use Rattle.std.proofs.Common.{◌≡◌, ◌++◌, drop}
use Rattle.node_stream.specs.Telling.{numbers_behind}
use Rattle.volume_stream.proofs.words.put_numbered.Given as goal

-- what is written, and then the other numbers
abbrev pub invariant-loop-number : goal.invariant-loop-number
invariant-loop-number l = l.out.items ++ numbers_behind (drop l.number-index l.numbers) ≡ l.fn.out.items ++ numbers_behind l.numbers
