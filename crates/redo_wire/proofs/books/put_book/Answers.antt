use Rattle.std.proofs.Common.{arith}
use Rattle.std.proofs.lemmas.Grind.{common_steps}
use Rattle.redo_wire.proofs.Written.{few_in_book}
use Rattle.redo_wire.proofs.books.put_book.Goals as goal

pub overflow_cast-waits : goal.overflow_cast-waits
overflow_cast-waits c = let few = (few_in_book c.args.book.now c.requires).1 in rw c.waits-waits.ensures.waits (omega (arith, few))

pub returns-clause-ok : goal.returns-clause-ok
returns-clause-ok c = grind (arith, common_steps)

pub returns-clause-wire : goal.returns-clause-wire
returns-clause-wire c =
    let few = few_in_book c.args.book.now c.requires in
    record {
      shape = c.cuts-cuts.ensures.shape;
      each_wait = rw c.waits-waits.ensures.waits at c.in_ok-put_list-3.ensures.wire;
      cut_count = few.0;
      wait_count = few.1;
    }

pub overflow_cast-points : goal.overflow_cast-points
overflow_cast-points c = let roster = c.points-points.ensures.shape.roster.1 in rw c.points-points.ensures.points (omega (arith, roster))
