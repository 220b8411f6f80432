use Rattle.std.proofs.lemmas.Grind.{common_steps}
use Rattle.std.proofs.Common.{◌≤◌, ◌<◌, length, sym, subst, arith}
use Rattle.std.specs.List.Sorted.{IsPartitionPoint}
use Rattle.redo_core.specs.Order.{AdvanceBefore}
use Rattle.redo_core.specs.Roster.{IsReader}
use Rattle.epoch_book.specs.Book.{book_of, roster_of, IsBook}
use Rattle.epoch_book.specs.Learning.{LearnsAdvance}
use Rattle.epoch_book.proofs.Books.{wait_book, wait_learns}
use Rattle.epoch_book.proofs.book.EpochBook.add_wait.Goals as goal

pub invariant_of-self-in-Err : goal.invariant_of-self-in-Err
invariant_of-self-in-Err c =
    let b = book_of c.self.inside.cuts.items c.self.inside.complete c.self.inside.points c.self.inside.waits in (
      subst (λ ws. IsBook (book_of c.self.inside.cuts.items c.self.inside.complete c.self.inside.points ws)) (sym c.in_ok-insert-in-Err.ensures.ok)
          (wait_book b c.in-Err.place c.args.advance c.self.invariant.0
          (subst (λ ws. c.in-Err.place ≤ length ws) c.as_slice.ensures c.in-Err.ensures.absent.0)
          (subst (λ ws. IsPartitionPoint (λ w. AdvanceBefore w c.args.advance) (λ w. AdvanceBefore c.args.advance w) ws c.in-Err.place) c.as_slice.ensures
          c.in-Err.ensures.absent.1)
          c.requires.shaped
          (subst (λ b. b.complete < c.args.advance.epoch) (sym c.self.view_is) c.requires.later)
          (subst (λ b. IsReader (roster_of b) c.args.advance.reader) (sym c.self.view_is) c.requires.of_roster)),
      c.self.invariant.1,
    )

pub returns-in_ok-insert-in-Err-clause-ok : goal.returns-in_ok-insert-in-Err-clause-ok
returns-in_ok-insert-in-Err-clause-ok c =
    let b = book_of c.self.inside.cuts.items c.self.inside.complete c.self.inside.points c.self.inside.waits in
    subst (λ b. LearnsAdvance b c.args.advance (book_of c.self.inside.cuts.items c.self.inside.complete c.self.inside.points c.insert.new.self))
    c.self.view_is
    (subst (λ ws. LearnsAdvance b c.args.advance (book_of c.self.inside.cuts.items c.self.inside.complete c.self.inside.points ws))
    (sym c.in_ok-insert-in-Err.ensures.ok)
    (wait_learns b c.in-Err.place c.args.advance (subst (λ b. b.complete < c.args.advance.epoch) (sym c.self.view_is) c.requires.later)))

pub returns-in_ok-insert-in-Err-clause-book : goal.returns-in_ok-insert-in-Err-clause-book
returns-in_ok-insert-in-Err-clause-book c =
    let b = book_of c.self.inside.cuts.items c.self.inside.complete c.self.inside.points c.self.inside.waits in
    subst (λ ws. IsBook (book_of c.self.inside.cuts.items c.self.inside.complete c.self.inside.points ws)) (sym c.in_ok-insert-in-Err.ensures.ok)
    (wait_book b c.in-Err.place c.args.advance c.self.invariant.0
    (subst (λ ws. c.in-Err.place ≤ length ws) c.as_slice.ensures c.in-Err.ensures.absent.0)
    (subst (λ ws. IsPartitionPoint (λ w. AdvanceBefore w c.args.advance) (λ w. AdvanceBefore c.args.advance w) ws c.in-Err.place) c.as_slice.ensures
    c.in-Err.ensures.absent.1)
    c.requires.shaped
    (subst (λ b. b.complete < c.args.advance.epoch) (sym c.self.view_is) c.requires.later)
    (subst (λ b. IsReader (roster_of b) c.args.advance.reader) (sym c.self.view_is) c.requires.of_roster))

pub invariant_of-self : goal.invariant_of-self
invariant_of-self c = (
  subst (λ ws. IsBook (book_of c.self.inside.cuts.items c.self.inside.complete c.self.inside.points ws)) (sym c.in_err-insert-in-Err.ensures.err) c.self.invariant.0,
  c.self.invariant.1,
)

pub returns-in-Ok-clause-book : goal.returns-in-Ok-clause-book
returns-in-Ok-clause-book c = subst IsBook c.self.view_is c.self.invariant.0

pub returns-in-Ok-clause-known : goal.returns-in-Ok-clause-known
returns-in-Ok-clause-known c = grind (arith, common_steps)
