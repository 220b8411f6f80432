use Rattle.std.proofs.Common.{arith}
use Rattle.std.proofs.lemmas.Grind.{common_steps}
use Rattle.redo_wire.specs.BookReading.{book_at}
use Rattle.redo_wire.proofs.FormReaders.{within_most}
use Rattle.redo_wire.proofs.BookReaders.{book_steps}
use Rattle.redo_wire.proofs.Failures.{handed_on, fails_then}
use Rattle.redo_wire.proofs.books.read_book.Goals as goal

-- what was judged on the way has the shape of a book
pub new-requires : goal.new-requires
new-requires c =
    let told = rw c.deref.ensures.value at c.complete_of-complete.ensures in
    let waits = rw told at c.in_ok-waits.ensures in
    rw told (book_steps c.args.has_many c.args.bytes.now (c.in_ok-count.count, c.in_ok-count.rest.now) (c.in_ok-cuts.cuts.items, c.in_ok-cuts.rest.now)
    (c.in_ok-readers.readers, c.in_ok-readers.rest.now) (c.in_ok-points.points.items, c.in_ok-points.rest.now)
    (c.in_ok-count-2.count, c.in_ok-count-2.rest.now) (c.in_ok-waits.waits.items, c.in_ok-waits.rest.now)
    (λ i. omega (arith, c.type_inv.bytes i)) c.in_ok-count.ensures c.in_ok-cuts.ensures c.in_ok-readers.ensures c.in_ok-points.ensures
    c.in_ok-count-2.ensures waits).1.0.shape

pub returns-in_err-count-2 : goal.returns-in_err-count-2
unfolding book_at
returns-in_err-count-2 c =
    handed_on _ c.from_residual-in_err-count-2.result c.in_err-count-2.field-0.0 _ c.from_residual-in_err-count-2.ensures.1
    (rw (c.in_ok-count.ensures, c.in_ok-cuts.ensures, c.in_ok-readers.ensures, c.in_ok-points.ensures) (fails_then c.in_err-count-2.field-0.0 _ _ c.in_err-count-2.ensures))

pub returns-in_err-waits : goal.returns-in_err-waits
unfolding book_at
returns-in_err-waits c =
    let told = rw c.deref.ensures.value at c.complete_of-complete.ensures in
    let fails = rw told at c.in_err-waits.ensures in
    handed_on _ c.from_residual-in_err-waits.result c.in_err-waits.field-0.0 _ c.from_residual-in_err-waits.ensures.1
    (rw (c.in_ok-count.ensures, c.in_ok-cuts.ensures, c.in_ok-readers.ensures, c.in_ok-points.ensures, c.in_ok-count-2.ensures)
    (fails_then c.in_err-waits.field-0.0 _ _ fails))

pub invariant_of-waiting : goal.invariant_of-waiting
invariant_of-waiting c = record {
  roster = within_most c.args.has_many 1 2 15 c.in_ok-cuts.rest.now (c.in_ok-readers.readers, c.in_ok-readers.rest.now) (omega arith) c.in_ok-readers.ensures;
}

pub overflow_cast-readers : goal.overflow_cast-readers
overflow_cast-readers c =
    let most = within_most c.args.has_many 1 2 15 c.in_ok-cuts.rest.now (c.in_ok-readers.readers, c.in_ok-readers.rest.now) (omega arith) c.in_ok-readers.ensures in
    omega (arith, most)

pub overflow_cast-count-2 : goal.overflow_cast-count-2
overflow_cast-count-2 c = grind (arith, common_steps)
