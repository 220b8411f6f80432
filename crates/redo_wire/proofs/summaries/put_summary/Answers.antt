use Rattle.std.proofs.Common.{arith}
use Rattle.std.proofs.lemmas.Grind.{common_steps}
use Rattle.redo_wire.proofs.Written.{few_in_summary}
use Rattle.redo_wire.proofs.summaries.put_summary.Goals as goal

pub overflow_cast-keys : goal.overflow_cast-keys
overflow_cast-keys c = let few = few_in_summary c.args.summary.now c.requires in rw c.keys-keys.ensures.keys (omega (arith, few))

pub returns-clause-ok : goal.returns-clause-ok
returns-clause-ok c = grind (arith, common_steps)

pub returns-clause-wire : goal.returns-clause-wire
returns-clause-wire c = record {
  shape = c.keys-keys.ensures.shape;
  book = rw c.book-book.ensures.book at c.in_ok-put_book.ensures.wire;
  each_key = rw c.keys-keys.ensures.keys at c.in_ok-put_list.ensures.wire;
  key_count = few_in_summary c.args.summary.now c.requires;
}
