use Rattle.std.proofs.Common.{sym, subst}
use Rattle.redo_core.specs.Book.{IsBook}
use Rattle.segment_core.proofs.TellingAll.{same_book}
use Rattle.segment_core.proofs.books.book_ref.Goals as goal

pub new-requires : goal.new-requires
new-requires c =
    let b = c.args.segment.now.book in
    let is = same_book b c.cuts.result.now c.front-complete.result.epoch c.points.result.now c.waits.result.now
    c.cuts.ensures.value c.front-complete.ensures.own.epoch c.points.ensures.own c.waits.ensures.value in
    subst IsBook (sym is) c.points.ensures.form.book
