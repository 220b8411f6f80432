use Rattle.std.proofs.Common.{◌≡◌, map, take, drop, length}
use Rattle.text.specs.Fields.{numbers_of}
use Rattle.text.proofs.Loops.{with_front}
use Rattle.node_stream.proofs.wide.wide_numbers.Given as goal

-- the numbers so far, and then those of the other fields
abbrev pub invariant-loop-i : goal.invariant-loop-i
invariant-loop-i g l = record {
  so_far : with_front (take l.i l.numbers) (numbers_of (drop l.i l.limits) (map (λ x. x.now) (drop l.i l.fields))) ≡ numbers_of l.limits
      (map (λ x. x.now) l.fields);
  many : length l.fields ≡ g.row.N;
  kept : length l.numbers ≡ g.row.N;
}
