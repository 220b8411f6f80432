use Rattle.std.proofs.lemmas.Grind.{common_steps}
use Rattle.std.proofs.Common.{◌≤◌, sym, subst, arith}
use Rattle.epoch_book.specs.Book.{book_of, IsBook}
use Rattle.epoch_book.proofs.Books.{raised_book, raises_one}
use Rattle.epoch_book.proofs.book.EpochBook.count.Goals as goal

pub invariant_of-self : goal.invariant_of-self
invariant_of-self c =
    let b = book_of c.self.inside.cuts.items c.self.inside.complete c.self.inside.points c.self.inside.waits in
    let counts = subst (λ x. c.args.advance.epoch ≤ x.complete) (sym c.self.view_is) c.requires.counts in (
      raised_book b c.args.advance c.raise.new.self c.self.invariant.0 c.point.ensures.shape
          (raises_one c.self.inside.complete c.self.inside.points c.raise.new.self c.args.advance counts c.raise.ensures.count c.raise.ensures.point
          c.raise.ensures.others),
      c.self.invariant.1,
    )

pub returns-clause-book : goal.returns-clause-book
returns-clause-book c =
    let b = book_of c.self.inside.cuts.items c.self.inside.complete c.self.inside.points c.self.inside.waits in
    let counts = subst (λ x. c.args.advance.epoch ≤ x.complete) (sym c.self.view_is) c.requires.counts in
    raised_book b c.args.advance c.raise.new.self c.self.invariant.0 c.point.ensures.shape
    (raises_one c.self.inside.complete c.self.inside.points c.raise.new.self c.args.advance counts c.raise.ensures.count c.raise.ensures.point
    c.raise.ensures.others)

pub returns-then-point-of-clause-book : goal.returns-then-point-of-clause-book
returns-then-point-of-clause-book c = subst IsBook c.self.view_is c.self.invariant.0

pub returns-then-point-of-clause-ok : goal.returns-then-point-of-clause-ok
returns-then-point-of-clause-ok c = grind (arith, common_steps)
