use Rattle.std.proofs.lemmas.Grind.{common_steps}
use Rattle.std.proofs.Common.{length, refl, subst, arith}
use Rattle.redo_core.specs.Roster.{IsReader}
use Rattle.epoch_book.specs.Book.{roster_of}
use Rattle.epoch_book.proofs.Against.{unrefused}
use Rattle.epoch_book.proofs.book.EpochBook.against_advance.Goals as goal

pub returns-in-Some-clause-some : goal.returns-in-Some-clause-some
returns-in-Some-clause-some c =
    let mine : IsReader (length c.self.inside.points) c.args.advance.reader = (
      omega (arith, c.reader.ensures.value, c.reader.ensures.positive),
      omega (arith, c.if-reader-own.false, c.reader.ensures.value, c.readers-own.ensures.value),
    ) in
    (subst (λ b. IsReader (roster_of b) c.args.advance.reader) c.self.view_is mine, c.in-Some.ensures.first)

pub returns-in-Some-clause-reader : goal.returns-in-Some-clause-reader
returns-in-Some-clause-reader c = grind (arith, common_steps)

pub returns-in-Some-clause-book : goal.returns-in-Some-clause-book
returns-in-Some-clause-book c = grind (arith, common_steps)

pub returns-in-None-clause-book : goal.returns-in-None-clause-book
returns-in-None-clause-book c = grind (arith, common_steps)

pub returns-then-reader-own-clause-book : goal.returns-then-reader-own-clause-book
returns-then-reader-own-clause-book c = grind (arith, common_steps)

pub returns-in-None-clause-reader : goal.returns-in-None-clause-reader
returns-in-None-clause-reader c = grind (arith, common_steps)

pub returns-in-None-clause-none : goal.returns-in-None-clause-none
returns-in-None-clause-none c = λ h.
    let mine : IsReader (length c.self.inside.points) c.args.advance.reader = (
      omega (arith, c.reader.ensures.value, c.reader.ensures.positive),
      omega (arith, c.if-reader-own.false, c.reader.ensures.value, c.readers-own.ensures.value),
    ) in
    unrefused c.args.self.now c.args.advance (subst (λ b. IsReader (roster_of b) c.args.advance.reader) c.self.view_is mine) (c.in-None.ensures.none refl)
